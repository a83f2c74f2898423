-- Laws of the reply to an entry that gives a mesh: what the bytes and the log show. Assumes nothing.
use Prim.Native.Nat.{ℕ, ◌+◌, ◌*◌, ◌≤◌, ◌<◌}
use native.Mathlib.Omega.{arith}
use mathlib.Core.Path.{◌≡◌, refl, sym, ap, subst, ◌∙◌}
use mathlib.Core.Bool.{Bool, true, false}
use mathlib.Core.List.{List, [], ◌∷◌}
use lib.Dec.{leb}
use lib.ListN.{length, take}
use lib.Ieee.{Float}
use borrow.Author.Tests.{le-leb, lt-leb}
use Rattle.lists.specs.Lists.{pick, padded}
use Rattle.model.specs.Reads.{refused, value}
use Rattle.mesh.specs.declared.Counts.{Counts}
use Rattle.mesh.specs.Log.{log_at}
use Rattle.mesh.specs.Widths.{particle_words}
use Rattle.call_frame.specs.Framed.{words_change}
use Rattle.image.specs.Words.{written, put_word_of, put_words}
use Rattle.image_writing.specs.Stores.{left_words, StorableWithout}
use Rattle.image_writing.proofs.Puts.{put_written, put_one, puts_then, put_cleared}
use Rattle.mesh_replies.specs.Both.{BothReplied}
use Rattle.edge_drops.specs.Parted.{listed}
use Rattle.mesh_replies.specs.Told.{listed_edges, done_words, mesh_told_by, log_told, Tellable, TellingBy}
use Rattle.mesh_replies.proofs.Shown.{listed_few, told_long}
use Rattle.std.specs.Prelude.{Result, Ok}

module _ (k : Counts) (gone : List ℕ) (p : List Float) (r c : List ℕ) (v : List Float) (e : List ℕ) (l : List Float) (o : List ℕ) (lg logged : ℕ)
    (h : Tellable k gone (length p) (length r) (length c) (length v) (length e) (length l) (length o) lg logged) where
  -- the rows can be stored where the answer has room
  pub done_storable : (bytes lent : ℕ) → bytes ≡ lent → 4 * (6 + particle_words * k.particles + 5 * k.triangles + 8 * k.edges + 2 * k.boundary) ≤ lent
      → StorableWithout k (listed gone) gone (length p) (length r) (length c) (length v) (length e) (length l) (length o) 2 bytes
  done_storable bytes lent q room =
      record {
        stands =
            record { points = h.points; roots = h.roots; corners = h.corners; volumes = h.volumes; ends = h.ends; lengths = h.lengths; outline = h.outline };
        listed = listed_few k gone _ _ _ _ _ _ _ lg logged h;
        rising = h.rising;
        room = omega (arith, q, room);
      }

  -- ---- the reply

  -- no room for the answer
  pub done_short : (any : Bool) (ws : List ℕ) (lent x : ℕ) (out log : List ℕ) → lent < 4 * (6 + particle_words * k.particles + 5 * k.triangles + 8 * k.edges + 2 * k.boundary)
      → BothReplied (refused 4) [] lent logged x out log → BothReplied (value (done_words k any (listed_edges gone) p r c v e l o)) ws lent logged x out log
  done_short any ws lent x out log few q =
      let n = told_long k gone p r c v e l o lg logged h in
      let t : leb (4 * length (done_words k any (listed_edges gone) p r c v e l o)) lent ≡ false = lt-leb (4 * length (done_words k any (listed_edges gone) p r c v e l o)) lent (omega (arith, n, few)) in
      record { code = rw t q.code; bytes = rw t q.bytes; entries = rw t q.entries }

  -- the answer, 0 behind it, and the log
  pub done_replied : (any : Bool) (ws : List ℕ) (x y end : ℕ) (s₀ s₁ s₂ s₃ out log : List ℕ) → end ≡ 4 * (6 + particle_words * k.particles + 5 * k.triangles + 8 * k.edges + 2 * k.boundary) → end ≤ length s₀
      → y ≡ pick any 1 0 → s₁ ≡ put_word_of s₀ 0 y → s₂ ≡ put_word_of s₁ 1 k.log → s₃ ≡ put_words s₂ 2 (left_words k (listed_edges gone) p r c v e l o) → length s₃ ≡ length s₀ → out ≡ padded (length s₃) 0 (take end s₃)
      → log ≡ written logged ws → x ≡ 0 → BothReplied (value (done_words k any (listed_edges gone) p r c v e l o)) ws (length s₀) logged x out log
  done_replied any ws x y end s₀ s₁ s₂ s₃ out log ends room ey e₁ e₂ e₃ long e₄ el ex =
      let B : List ℕ = left_words k (listed_edges gone) p r c v e l o in
      let n = told_long k gone p r c v e l o lg logged h in
      let t : leb (4 * length (done_words k any (listed_edges gone) p r c v e l o)) (length s₀) ≡ true = le-leb (4 * length (done_words k any (listed_edges gone) p r c v e l o)) (length s₀) (omega (arith, n, room, ends)) in
      let p₁ : s₁ ≡ put_words s₀ 0 (y ∷ []) = e₁ ∙ put_one s₀ 0 y in
      let p₂ : s₂ ≡ put_words s₀ 0 (y ∷ k.log ∷ []) = puts_then s₀ s₁ s₂ 0 1 (y ∷ []) (k.log ∷ []) p₁ (e₂ ∙ put_one s₁ 1 k.log) refl (omega (arith, room, ends)) in
      let p₃ : s₃ ≡ put_words s₀ 0 (y ∷ k.log ∷ B) = puts_then s₀ s₂ s₃ 0 2 (y ∷ k.log ∷ []) B p₂ e₃ refl (omega (arith, room, ends)) in
      let w : out ≡ written (length s₀) (done_words k any (listed_edges gone) p r c v e l o) =
      put_cleared s₀ s₃ out (y ∷ k.log ∷ B) end p₃ long e₄ (omega (arith, n, ends)) ∙ ap (λ (b : ℕ). written (length s₀) (b ∷ k.log ∷ B)) ey in
      record { code = rw t ex; bytes = rw t w; entries = rw t el }

-- the words of a log behind nothing
pub log_written : (logged : ℕ) (ws s s' : List ℕ) → 4 * length ws ≤ logged → s ≡ written logged [] → s' ≡ put_words s 0 ws → s' ≡ written logged ws
log_written logged ws s s' h e f = f ∙ ap (λ (t : List ℕ). put_words t 0 ws) e ∙ put_written logged [] ws 0 refl (omega arith)

-- ---- by the case of what a call came to

pub telling_as : {E : Type 0} (told : E → ℕ) (a b : Result Counts E) (gone : List ℕ) (lp lr lc lv le ll lo lg logged : ℕ) → a ≡ b → TellingBy told a gone lp lr lc lv le ll lo lg logged → TellingBy told b gone lp lr lc lv le ll lo lg logged
telling_as {E} told a b gone lp lr lc lv le ll lo lg logged e h = subst (λ (z : Result Counts E). TellingBy told z gone lp lr lc lv le ll lo lg logged) e h

pub told_as : {E : Type 0} (told : E → ℕ) (a b : Result Counts E) (gone : List ℕ) (p : List Float) (r c : List ℕ) (v : List Float) (e : List ℕ) (l : List Float) (o g : List ℕ) (lent logged x : ℕ) (out log : List ℕ) → a ≡ b
    → BothReplied (mesh_told_by told b gone p r c v e l o g) (log_told b g) lent logged x out log → BothReplied (mesh_told_by told a gone p r c v e l o g) (log_told a g) lent logged x out log
told_as {E} told a b gone p r c v e l o g lent logged x out log q h = subst (λ (z : Result Counts E). BothReplied (mesh_told_by told z gone p r c v e l o g) (log_told z g) lent logged x out log) (sym q) h

-- a refusal by its number
pub refused_as : (n m lent logged x : ℕ) (out log : List ℕ) → n ≡ m → BothReplied (refused n) [] lent logged x out log → BothReplied (refused m) [] lent logged x out log
refused_as n m lent logged x out log q h = subst (λ (z : ℕ). BothReplied (refused z) [] lent logged x out log) q h

-- whether anything was split or inserted, as the log tells it
pub done_as : {E : Type 0} (told : E → ℕ) (k : Counts) (any : Bool) (gone : List ℕ) (p : List Float) (r c : List ℕ) (v : List Float) (e : List ℕ) (l : List Float) (o g : List ℕ) (lent logged x : ℕ) (out log : List ℕ) → any ≡ words_change (log_at k.log g)
    → BothReplied (value (done_words k any (listed_edges gone) p r c v e l o)) (take (6 * k.log) g) lent logged x out log → BothReplied (mesh_told_by told (Ok k) gone p r c v e l o g) (log_told {E = E} (Ok k) g) lent logged x out log
done_as told k any gone p r c v e l o g lent logged x out log q h = subst (λ (b : Bool). BothReplied (value (done_words k b (listed_edges gone) p r c v e l o)) (take (6 * k.log) g) lent logged x out log) q h
