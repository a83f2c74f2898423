-- Laws of marks: a table that has 1 at each number of a list, as the list grows; the particles that elements hold. Assumes nothing.
use mathlib.Core.Path.{◌≡◌, refl, sym, ◌∙◌, ap}
use mathlib.Core.Bool.{Bool, true, ◌||◌}
use mathlib.Core.Logic.{⊎_elim}
use mathlib.Core.List.{List, [], ◌∷◌, ◌++◌}
use Prim.Native.Nat.{ℕ, ◌+◌, ◌*◌, ◌<◌}
use native.Mathlib.Omega.{arith}
use native.Mathlib.Numerals.{add-one}
use borrow.Author.Tests.{eq-eqb, ne_eqb}
use lib.ListN.{length, get_or, set, take, length-set}
use lib.Seq.{take-suc}
use Rattle.lists.specs.Lists.{pick, stands, any, each}
use Rattle.lists.proofs.Stores.{stored}
use Rattle.lists.proofs.Sifts.{or_true, stands_append}
use Rattle.model.specs.Elements.{Element}
use Rattle.piece_classes.specs.Classes.{held_by}
use Rattle.bodies.specs.Bodies.{UsedMarked}
use Rattle.bodies.specs.Tables.{Marked}
use Rattle.lists.proofs.Truths.{or_end}

-- ---- one number more

-- x and no other number stands in the list anew
stands_last : (l : List ℕ) (x y : ℕ) → y ≡ x → stands y (l ++ (x ∷ [])) ≡ true
stands_last l x y e = stands_append y l (x ∷ []) ∙ or_true (stands y l) (stands y (x ∷ [])) (rw (eq-eqb x y (sym e)))

stands_others : (l : List ℕ) (x y : ℕ) → (y ≡ x → ⊥) → stands y (l ++ (x ∷ [])) ≡ stands y l
stands_others l x y n = stands_append y l (x ∷ []) ∙ rw (ne_eqb x y (λ e. n (sym e))) (or_end (stands y l))

-- no number has no mark
pub marked_none : (marks : List ℕ) → ((x : ℕ) → x < length marks → get_or marks x 0 ≡ 0) → Marked [] marks
marked_none marks clear = record { mark = clear }

pub marked_store : (l marks : List ℕ) (x : ℕ) → x < length marks → Marked l marks → Marked (l ++ (x ∷ [])) (set marks x 1)
marked_store l marks x h M =
    record {
      mark = λ y g.
          let b : y < length marks = omega (arith, length-set marks x 1) in
          ⊎_elim (λ w. w.1 ∙ ap (λ (s : Bool). pick s 1 0) (sym (stands_last l x y w.0)))
          (λ w. w.1 ∙ M.mark y b ∙ ap (λ (s : Bool). pick s 1 0) (sym (stands_others l x y w.0)))
          (stored marks x 1 y h);
    }

-- ---- the particles that elements hold

-- one corner more of a table
pub marked_corner : (t : ℕ) (verts used : List ℕ) → t < length verts → get_or verts t 0 < length used → Marked (take t verts) used → Marked (take (t + 1) verts) (set used (get_or verts t 0) 1)
marked_corner t verts used l h M = rw (add-one t, take-suc verts t 0 l) (marked_store (take t verts) used (get_or verts t 0) h M)

-- a number stands in one of the rows exactly where it stands in all of them, one behind the other
pub each_stands : {A : Type 0} (f : A → List ℕ) (x : ℕ) (l : List A) → stands x (each f l) ≡ any (λ a. stands x (f a)) l
unfolding each any
each_stands f x [] = refl
each_stands f x (a ∷ l) = stands_append x (f a) (each f l) ∙ ap (λ (s : Bool). stands x (f a) || s) (each_stands f x l)

-- the corners of a table are what its elements hold
pub used_marked : {n k : ℕ} {verts used : List ℕ} → Marked (take (n * k) verts) used → UsedMarked n k verts used
unfolding held_by
used_marked {n} {k} {verts} {used} M =
    record {
      marks = λ es C x l.
          M.mark x l
          ∙ ap (λ (s : Bool). pick s 1 0) (ap (λ (t : List ℕ). stands x t) C.corners_are ∙ each_stands (λ (e : Element). e.corners) x es);
    }
