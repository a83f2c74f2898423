-- Some element of a table holds two particles: as a loop over the rows finds it. Assumes nothing.
use mathlib.Core.Path.{◌≡◌, refl, sym, ◌∙◌, ap}
use mathlib.Core.Bool.{Bool, true, false, ◌&&◌}
use mathlib.Core.List.{List, []}
use Prim.Native.Nat.{ℕ, ◌+◌, ◌*◌, ◌-◌, ◌<◌, ◌≤◌}
use native.Mathlib.Numerals.{add-one}
use native.Mathlib.Omega.{arith}
use lib.ListN.{length, get_or, take, drop, drop_of_length-le}
use lib.Seq.{drop-cons}
use Rattle.lists.specs.Lists.{stands, any}
use Rattle.columns.proofs.Cells.{next_col, col_fits}
use Rattle.model.specs.Mesh.{Mesh}
use Rattle.model.specs.Elements.{Kind, Element, elements_of, held}
use Rattle.elements.specs.Table.{Cornered, HeldBoth}
use Rattle.elements.proofs.Tables.{no_element}
use Rattle.elements.proofs.Fans.{row_at}

-- for the elements of a mesh it is `held`
pub held_is : (kind : Kind) (M : Mesh) (x y k n : ℕ) (verts : List ℕ) (r : Bool) → Cornered k (elements_of kind M) n verts → HeldBoth x y k n verts r → r ≡ held kind M x y
unfolding held
held_is kind M x y k n verts r C H = H.is (elements_of kind M) C

-- one test behind the other: the second where the first holds, else false
pub both_true : {s t r : Bool} → s ≡ true → r ≡ t → r ≡ s && t
both_true p q = rw p q

pub both_false : {s : Bool} (t : Bool) → s ≡ false → false ≡ s && t
both_false t p = rw p

-- the row that a program lends from a on
pub row_lent : (v k a : ℕ) (verts : List ℕ) → stands v (take (a + k - a) (drop a verts)) ≡ stands v (take k (drop a verts))
row_lent v k a verts = let e : a + k - a ≡ k = omega arith in rw e

-- a loop that stops at the first that passes
module _ {A : Type 0} (p : A → Bool) (l : List A) (i : ℕ) (d : A) where
  -- it goes on past one that fails
  pub any_on : i < length l → p (get_or l i d) ≡ false → any p (drop (i + 1) l) ≡ any p (drop i l)
  unfolding any
  any_on h e = rw (drop-cons l i d h, add-one i, e)

  -- it stops at one that passes
  pub any_here : i < length l → p (get_or l i d) ≡ true → any p (drop i l) ≡ true
  unfolding any
  any_here h e = rw (drop-cons l i d h, e)

-- does an element hold both
abbrev pub holds_both : ℕ → ℕ → Element → Bool
holds_both x y e = stands x e.corners && stands y e.corners

-- at the head of the loop: i rows were passed, up to a in the corners, and some element holds both where one of the rest does
pub record Seeking (x y k n : ℕ) (verts : List ℕ) (i a : ℕ) : Type 0 where
  pub rest : (es : List Element) → Cornered k es n verts → any (holds_both x y) (drop i es) ≡ any (holds_both x y) es
  pub from : a ≡ i * k
  pub inside : i ≤ n

-- before the first turn
pub seeking_start : (x y k n : ℕ) (verts : List ℕ) → Seeking x y k n verts 0 0
seeking_start x y k n verts = record { rest = λ es C. refl; from = omega arith; inside = omega arith }

module _ (x y k n : ℕ) (verts : List ℕ) (i a : ℕ) (F : Seeking x y k n verts i a) where
  -- after the last turn
  pub seeking_done : n ≤ i → HeldBoth x y k n verts false
  unfolding any
  seeking_done h =
      record {
        is = λ es C.
            let c : n ≡ length es = C.count in
            let g : length es ≤ i = omega arith in
            let e : drop i es ≡ [] = drop_of_length-le es g in
            ap (any (holds_both x y)) (sym e) ∙ F.rest es C;
      }

  module _ (h : i < n) where
    -- the row that is read lies in the corners
    pub seeking_reads : n * k ≤ length verts → a + k ≤ length verts
    seeking_reads room = let f : a ≡ i * k = F.from in omega (arith, col_fits i n k h)

    -- the next element is tested as its row is
    tested : (t : Bool) → stands x (take (a + k - a) (drop a verts)) && stands y (take (a + k - a) (drop a verts)) ≡ t → (es : List Element) → Cornered k es n verts
        → holds_both x y (get_or es i no_element) ≡ t
    tested t q es C = ap (λ (l : List ℕ). stands x l && stands y l) (sym (row_at k es n verts i a C h F.from)) ∙ q

    -- a turn at an element that does not hold both
    pub seeking_more : stands x (take (a + k - a) (drop a verts)) && stands y (take (a + k - a) (drop a verts)) ≡ false → Seeking x y k n verts (i + 1) (a + k)
    seeking_more q =
        let f : a ≡ i * k = F.from in
        record {
          rest = λ es C. let c : n ≡ length es = C.count in any_on (holds_both x y) es i no_element (omega arith) (tested false q es C) ∙ F.rest es C;
          from = omega (arith, next_col i k);
          inside = omega arith;
        }

    -- a turn at one that does
    pub seeking_found : stands x (take (a + k - a) (drop a verts)) && stands y (take (a + k - a) (drop a verts)) ≡ true → HeldBoth x y k n verts true
    seeking_found q =
        record { is = λ es C. let c : n ≡ length es = C.count in sym (any_here (holds_both x y) es i no_element (omega arith) (tested true q es C)) ∙ F.rest es C }
