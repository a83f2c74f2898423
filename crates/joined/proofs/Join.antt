-- What an entry that answers Ok did: a call of a history, and the lent blocks hold what the call gave.
use mathlib.Core.Path.{◌≡◌, refl, sym, ◌∙◌, ap, subst}
use mathlib.Core.Bool.{Bool, true, false}
use mathlib.Core.List.{List, map}
use Prim.Native.Nat.{ℕ}
use native.Mathlib.Omega.{arith}
use lib.ListN.{length, length-map}
use Rattle.model.specs.Mesh.{Mesh}
use Rattle.model.specs.Run.{Entry, Rooms}
use Rattle.model.specs.Calls.{Outcome, refused, done, refusal, cut_call, crack_call, split_call, straddlers_call}
use Rattle.mesh.specs.Given.{Given, Lent, mesh_of, sizes_fit_of}
use Rattle.mesh.specs.Log.{world_of, words_of, words_in}
use Rattle.mesh.specs.Filled.{Filled}
use Rattle.mesh.specs.declared.Counts.{Counts}
use Rattle.call_frame.specs.Answered.{answer_of, counts_of, shown, front_of}
use Rattle.call_frame.proofs.Front.{front_told}
use Rattle.filled.specs.Counts.{counts_in}
use Rattle.filled.proofs.Held.{mesh_held}
use Rattle.model_laws.proofs.Accepted.{accepted_rowed}
use Rattle.lineage.proofs.Again.{called_checked}
use Rattle.lineage.specs.History.{Called, cutting, cracking, splitting, removing}
use Rattle.joined.specs.Entries.{Asked, cuts, cracks, splits, straddlers, Blocks, held, rooms, Answering}
use Rattle.call_frame.specs.declared.Answer.{Answer}
use Rattle.model.specs.Reads.{value}

-- what a call gave
pub record Gave (o : Outcome) (k : Counts) (b : Bool) : Type 0 where
  pub mesh : Mesh
  pub more : List Entry
  pub is : o ≡ done mesh more b
  pub counts : k ≡ counts_of mesh more

-- what was answered Ok is done
done_of : (o : Outcome) (k : Counts) (b : Bool) → value (record { counts = k; changed = b }) ≡ answer_of o → Gave o k b
done_of (refused n) k b e = let z : ◌≡◌ {A = ℕ} 0 1 = cc e in absurd (omega arith)
done_of (done M more c) k b e =
    let a : ◌≡◌ {A = Answer} (record { counts = k; changed = b }) (record { counts = counts_of M more; changed = c }) = cc e in
    record { mesh = M; more = more; is = ap (λ (x : Answer). done M more x.changed) (sym a); counts = ap (λ (x : Answer). x.counts) a }

-- a refusal is not done
pub not_done : (n : ℕ) (M : Mesh) (l : List Entry) (c : Bool) → refused n ≡ done M l c → ⊥
not_done n M l c e = let z : ◌≡◌ {A = ℕ} 0 1 = cc in omega arith

-- a call that is done passed the test of sizes
module _ (L : Rooms) (M : Mesh) (call : Bool → Outcome) (off : call false ≡ refused 1) (is : (M' : Mesh) (more : List Entry) (c : Bool) → call true ≡ done M' more c → Called L M M' more) where
  pub sized_call : (sized : Bool) (M' : Mesh) (more : List Entry) (c : Bool) → call sized ≡ done M' more c → Called L M M' more
  sized_call true M' more c e = is M' more c e
  sized_call false M' more c e = absurd (not_done 1 M' more c (sym off ∙ e))

asked_called : (G : Given) (I : Lent) (o : Outcome) → Asked G I o → (M' : Mesh) (more : List Entry) (c : Bool) → o ≡ done M' more c → Called (rooms I) (mesh_of G) M' more
unfolding cut_call crack_call split_call straddlers_call refusal
asked_called G I o (cuts n B f) M' more c e = sized_call (rooms I) (mesh_of G) (λ s. cut_call s (mesh_of G) n B f (rooms I)) refl (λ N l x d. cutting n B f d) (sizes_fit_of G) M' more c e
asked_called G I o (cracks ts min) M' more c e = sized_call (rooms I) (mesh_of G) (λ s. crack_call s (mesh_of G) ts min (rooms I)) refl (λ N l x d. cracking ts min d) (sizes_fit_of G) M' more c e
asked_called G I o (splits v sides) M' more c e = sized_call (rooms I) (mesh_of G) (λ s. split_call s (mesh_of G) v sides (rooms I)) refl (λ N l x d. splitting v sides d) (sizes_fit_of G) M' more c e
asked_called G I o straddlers M' more c e = sized_call (rooms I) (mesh_of G) (λ s. straddlers_call s (mesh_of G) (rooms I)) refl (λ N l x d. removing d) (sizes_fit_of G) M' more c e

-- the blocks that a call left, read back with the counts that it told, hold the mesh that the definition gave; the front of the log, the words of the definition's entries
pub record Joined (G : Given) (I : Lent) (k : Counts) (D : Blocks) : Type 0 where
  pub more : List Entry
  pub called : Called (rooms I) (mesh_of G) (held k D) more
  pub front : front_of k.log D.log ≡ words_in (map words_of more)

pub joined : (G : Given) (k : Counts) (b : Bool) (D : Blocks) (A : Answering G k b D) → Joined G A.lengths k D
joined G k b D A =
    let o = A.outcome in
    let R = done_of o k b A.answered.answer in
    let M' = R.mesh in
    let more = R.more in
    let F : Filled (world_of M' more) A.lengths D.points D.roots D.corners D.volumes D.ends D.lengths D.outline D.log =
    subst (λ (x : Outcome). Filled (shown x) A.lengths D.points D.roots D.corners D.volumes D.ends D.lengths D.outline D.log) R.is A.answered.blocks in
    let C = asked_called G A.lengths o A.asked M' more b R.is in
    let rows = accepted_rowed M' (called_checked (rooms A.lengths) (mesh_of G) C).after in
    let n : length (map words_of more) ≡ length more = length-map more words_of in
    let c : counts_in (world_of M' more) ≡ k = rw n (sym R.counts) in
    let m : held k D ≡ M' = subst (λ (x : Counts). held x D ≡ M') c (mesh_held (world_of M' more) A.lengths D.points D.roots D.corners D.volumes D.ends D.lengths D.outline D.log F rows A.kept) in
    record {
      more = more;
      called = subst (λ (x : Mesh). Called (rooms A.lengths) (mesh_of G) x more) (sym m) C;
      front = front_told o A.lengths k b D.points D.roots D.corners D.volumes D.ends D.lengths D.outline D.log A.answered (ap (λ (x : Lent). x.log) A.kept) ∙ ap (λ (x : Outcome). words_in (shown x).log) R.is;
    }
