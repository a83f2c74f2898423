-- The corners of a mesh that is not refused: each names a particle, and no triangle names one twice. So its table can be built. Assumes nothing.
use Prim.Native.Nat.{ℕ, zero, suc, ◌/◌, ◌<◌, ◌≤◌}
use native.Mathlib.Nat.{not-suc-le-zero, le_of_suc-le-suc}
use native.Mathlib.Omega.{arith}
use mathlib.Core.Path.{◌≡◌, sym, ap, ◌∙◌}
use mathlib.Core.Bool.{true}
use mathlib.Core.List.{List}
use lib.ListN.{length}
use lib.Ieee.{Float}
use Rattle.lists.specs.Lists.{tab, all}
use Rattle.lists.proofs.Sifts.{all_tab, stands_made}
use Rattle.lists.proofs.Stores.{tab_length, tab_at}
use Rattle.columns.specs.Block.{cell}
use Rattle.model.specs.Elements.{Kind, Triangles, Straps, Nothing}
use Rattle.model.specs.Valid.{named, corners_ok, ends_ok, side_ok}
use Rattle.model_laws.proofs.Rows.{named_first}
use Rattle.mesh.specs.At.{triangles_at, edges_at, boundary_at}
use Rattle.links.specs.Links.{LinksOf}
use Rattle.links.specs.Rooms.{CornersApart, BuildRoom}
use Rattle.links.specs.Linked.{Linked, Linkable}
use Rattle.links.proofs.Lowest.{false_true}

module _ (n : ℕ) where
  named_below : (k : ℕ) (f : ℕ → ℕ) → named n (tab k f) ≡ true → (c : ℕ) → c < k → f c < n
  unfolding tab
  named_below zero f e c h = absurd (not-suc-le-zero h)
  named_below (suc k) f e zero h = (named_first n (f 0) (tab k (λ j. f (suc j))) e).0
  named_below (suc k) f e (suc c) h = named_below k (λ j. f (suc j)) (named_first n (f 0) (tab k (λ j. f (suc j))) e).2 c (le_of_suc-le-suc h)

  named_apart : (k : ℕ) (f : ℕ → ℕ) → named n (tab k f) ≡ true → (b c : ℕ) → b < c → c < k → f b ≡ f c → ⊥
  unfolding tab
  named_apart zero f e b c l h q = absurd (not-suc-le-zero h)
  named_apart (suc k) f e b zero l h q = absurd (not-suc-le-zero l)
  named_apart (suc k) f e zero (suc c) l h q =
      let m : length (tab k (λ j. f (suc j))) ≡ k = tab_length k _ in
      let i = le_of_suc-le-suc h in
      false_true (named_first n (f 0) (tab k (λ j. f (suc j))) e).1 (stands_made (f 0) (tab k (λ j. f (suc j))) c (omega arith) (tab_at k (λ j. f (suc j)) c 0 i ∙ sym q))
  named_apart (suc k) f e (suc b) (suc c) l h q = named_apart k (λ j. f (suc j)) (named_first n (f 0) (tab k (λ j. f (suc j))) e).2 b c (le_of_suc-le-suc l) (le_of_suc-le-suc h) q

-- so the table of an accepted mesh can be built
pub corners_apart : (n t : ℕ) (C : List ℕ) (W : List Float) → all (corners_ok n) (triangles_at t C W) ≡ true → CornersApart n 3 t (cell 0 (length C / 3) C)
unfolding corners_ok triangles_at tab
corners_apart n t C W e =
    record {
      below = λ c i hc hi. named_below n 3 (λ j. cell 0 (length C / 3) C j i) (all_tab (corners_ok n) t _ e i hi) c hc;
      apart = λ b c i l hc hi q. named_apart n 3 (λ j. cell 0 (length C / 3) C j i) (all_tab (corners_ok n) t _ e i hi) b c l hc q;
    }

-- and so can that of its edges
pub ends_apart : (n e : ℕ) (E : List ℕ) (W : List Float) → all (ends_ok n) (edges_at e E W) ≡ true → CornersApart n 2 e (cell 0 (length E / 4) E)
unfolding ends_ok edges_at tab
ends_apart n e E W q =
    record {
      below = λ c i hc hi. named_below n 2 (λ j. cell 0 (length E / 4) E j i) (all_tab (ends_ok n) e _ q i hi) c hc;
      apart = λ b c i l hc hi. named_apart n 2 (λ j. cell 0 (length E / 4) E j i) (all_tab (ends_ok n) e _ q i hi) b c l hc;
    }

-- and that of its boundary
pub sides_apart : (n b : ℕ) (B : List ℕ) → all (side_ok n) (boundary_at b B) ≡ true → CornersApart n 2 b (cell 0 (length B / 2) B)
unfolding side_ok boundary_at tab
sides_apart n b B q =
    record {
      below = λ c i hc hi. named_below n 2 (λ j. cell 0 (length B / 2) B j i) (all_tab (side_ok n) b _ q i hi) c hc;
      apart = λ a c i l hc hi. named_apart n 2 (λ j. cell 0 (length B / 2) B j i) (all_tab (side_ok n) b _ q i hi) a c l hc;
    }

-- more particles do no harm
pub apart_below : (n P k t : ℕ) (corner : ℕ → ℕ → ℕ) → n ≤ P → CornersApart n k t corner → CornersApart P k t corner
apart_below n P k t corner h A = record { below = λ c i hc hi. let b = A.below c i hc hi in omega arith; apart = A.apart }

-- ---- the table beside a mesh, whichever its kind is

module _ {K : Kind} {t : ℕ} {C : List ℕ} {lt : ℕ} (B : Linkable K t C lt) where
  pub build_room : K ≡ Triangles → BuildRoom 1024 3 1024 (length C / 3) t C lt
  build_room e =
      record {
        room = record { cells = B.few; rows = B.rows; columns = omega arith; table = B.long e; small = omega (arith, B.few) };
        apart = B.apart e;
      }

  pub linked_built : {links : List ℕ} → length links ≡ lt → LinksOf 1024 3 1024 t (cell 0 (length C / 3) C) links → Linked K t C links
  linked_built long L = record { long = λ e. omega (arith, long, B.long e); are = λ e. L }

-- is it triangles
triangles? : Kind → ℕ
triangles? Triangles = 1
triangles? Straps = 0
triangles? Nothing = 0

none : {K : Kind} → triangles? K ≡ 0 → K ≡ Triangles → ⊥
unfolding triangles?
none e q = let z : ◌≡◌ {A = ℕ} 0 1 = sym e ∙ ap triangles? q in omega arith

-- straps have no table, nor has a mesh of neither kind
pub linked_straps : {K : Kind} {t : ℕ} {C links : List ℕ} → K ≡ Straps → Linked K t C links
unfolding triangles?
linked_straps q = record { long = λ e. absurd (none (ap triangles? q) e); are = λ e. absurd (none (ap triangles? q) e) }

pub linked_nothing : {K : Kind} {t : ℕ} {C links : List ℕ} → K ≡ Nothing → Linked K t C links
unfolding triangles?
linked_nothing q = record { long = λ e. absurd (none (ap triangles? q) e); are = λ e. absurd (none (ap triangles? q) e) }
