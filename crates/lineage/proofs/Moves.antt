-- What the host leaves as it was: a mesh that was moved has grown from the mesh before it. Assumes nothing.
use mathlib.Core.Path.{◌≡◌, refl, sym, ◌∙◌, ap, subst}
use mathlib.Core.List.{List, [], ◌∷◌, map, map-map}
use Prim.Native.Nat.{ℕ, zero, suc}
use native.Mathlib.Omega.{arith}
use lib.ListN.{length, get_or, length-map}
use Rattle.lists.specs.Lists.{stands}
use Rattle.model.specs.Mesh.{Particle, Triangle, Mesh, blank_triangle}
use Rattle.model.specs.Elements.{corners_of}
use Rattle.model.specs.Trace.{All, Different, Sound, Hold}
use Rattle.model_laws.proofs.Laws.{all_map, all_over}
use Rattle.lineage.specs.History.{Moved, roots_of}
use Rattle.lineage.proofs.Grown.{Grown, column, roots_by, roots_by_lem}
use Rattle.lists.proofs.Sifts.{map_ext}

-- how many, by a column
pub as_many : {A B : Type 0} (f : A → B) (l l' : List A) → map f l' ≡ map f l → length l' ≡ length l
as_many f l l' e = sym (length-map l' f) ∙ ap length e ∙ length-map l f

-- what holds of each element's column value holds where the column is the same
unmapped : {A B : Type 0} (f : A → B) (P : B → Type 0) (l : List A) → All P (map f l) → All (λ a. P (f a)) l
unmapped f P [] h = tt
unmapped f P (a ∷ l) h = (h.0, unmapped f P l h.1)

pub all_column : {A B : Type 0} (f : A → B) (P : B → Type 0) (l l' : List A) → map f l' ≡ map f l → All (λ a. P (f a)) l → All (λ a. P (f a)) l'
all_column {B = B} f P l l' e h = unmapped f P l' (subst (λ (m : List B). All P m) (sym e) (all_map (λ a. P (f a)) P f (λ a u. u) l h))

-- ---- triangles by their corners

corners_at : (ts : List Triangle) (i : ℕ) → corners_of (get_or ts i blank_triangle) ≡ get_or (map corners_of ts) i (corners_of blank_triangle)
corners_at [] i = refl
corners_at (t ∷ ts) zero = refl
corners_at (t ∷ ts) (suc i) = corners_at ts i

hold_moved : (ts ts' : List Triangle) → map corners_of ts' ≡ map corners_of ts → (x : ℕ) → Hold x ts → Hold x ts'
hold_moved ts ts' e x h = (
  h.0,
  (
    (let u = h.1.0 in let m = as_many corners_of ts ts' e in omega arith),
    ap (stands x) (corners_at ts' h.0 ∙ ap (λ (l : List (List ℕ)). get_or l h.0 (corners_of blank_triangle)) e ∙ sym (corners_at ts h.0)) ∙ h.1.1,
  ),
)

pub sound_moved : (n : ℕ) (ts ts' : List Triangle) → map corners_of ts' ≡ map corners_of ts → All (Sound n) ts → All (Sound n) ts'
sound_moved n ts ts' e S =
    all_column corners_of (Different 3 n) ts ts' e S

-- what is read off the corners alone is the same
pub by_corners : {A : Type 0} (g : List ℕ → A) (ts ts' : List Triangle) → map corners_of ts' ≡ map corners_of ts → map (λ t. g (corners_of t)) ts' ≡ map (λ t. g (corners_of t)) ts
by_corners {A} g ts ts' e = sym (map-map g corners_of ts') ∙ ap {B = List A} (map g) e ∙ map-map g corners_of ts

-- ---- the mesh

pub moved_grown : (M M' : Mesh) → Moved M M' → All (Sound (length M.particles)) M.triangles → Grown M M'
moved_grown M M' W S =
    let n : length M'.particles ≡ length M.particles = as_many (λ (p : Particle). p.root) M.particles M'.particles W.roots in
    let col = column M in
    record {
      sound = subst (λ (m : ℕ). All (Sound m) M'.triangles) (sym n) (sound_moved (length M.particles) M.triangles M'.triangles W.corners S);
      count = as_many corners_of M.triangles M'.triangles W.corners;
      more = omega arith;
      kept = hold_moved M.triangles M'.triangles W.corners;
      fresh = λ x u w. absurd (omega arith);
      roots =
          map_ext (roots_of M') (roots_by col) (λ t. roots_by_lem M' t ∙ ap (λ (c : List ℕ). roots_by c t) W.roots) M'.triangles ∙ by_corners (map (λ x. get_or col x 0)) M.triangles M'.triangles W.corners
          ∙ map_ext (roots_by col) (roots_of M) (λ t. sym (roots_by_lem M t)) M.triangles;
    }
