-- The loop over a fan: after i elements, the triangles hold the copies of the first i elements' groups.
use Prim.Native.Nat.{ℕ, suc, ◌+◌, ◌≤◌, ◌<◌, zero-le, suc-le-suc, ◌/◌}
use native.Mathlib.Numerals.{add-one}
use native.Mathlib.Decide.{ℕ_discrete}
use native.Mathlib.Omega.{arith}
use mathlib.Core.Path.{◌≡◌, refl, sym, ap, ◌∙◌, ap₂}
use mathlib.Core.List.{List, [], ◌∷◌, ◌++◌, map}
use lib.ListN.{length, get_or, take}
use lib.Seq.{take-suc, length-take-le, get_or-take, take-length}
use lib.Dec.{eqb}
use borrow.Author.Tests.{eq-eqb, ne_eqb}
use Rattle.lists.specs.Lists.{pick, map_at_of}
use Rattle.lists.specs.Labels.{replaced}
use Rattle.model.specs.Mesh.{Triangle}
use Rattle.model.specs.Elements.{Triangles}
use Rattle.model.specs.Split.{Part, Opening, group_at_of, rewired_triangles, retargeted, only_at, copy_for_of}
use Rattle.mesh.specs.Workers.{group_of, Mapped}
use Rattle.mesh.specs.At.{triangles_at}
use Rattle.columns.proofs.Rows.{map_at_map_at, map_at_ext, map_at_same}
use lib.Ieee.{Float}

-- an element that no entry names has group 0
absent : (es gs : List ℕ) (k : ℕ) → ((j : ℕ) → j < length es → get_or es j 0 ≡ k → ⊥) → group_of es gs k ≡ 0
unfolding group_of
absent [] gs k h = refl
absent (e ∷ es) [] k h = refl
absent (e ∷ es) (g ∷ gs) k h = rw (ne_eqb e k (h 0 (suc-le-suc zero-le))) (absent es gs k (λ j p. h (suc j) (suc-le-suc p)))

-- one more entry
group_new : (es gs : List ℕ) (e g : ℕ) → length es ≡ length gs → ((j : ℕ) → j < length es → get_or es j 0 ≡ e → ⊥) → group_of (es ++ (e ∷ [])) (gs ++ (g ∷ [])) e ≡ g
unfolding group_of
group_new [] [] e g q h = rw (eq-eqb e e refl)
group_new [] (x ∷ gs) e g q h = absurd (omega arith)
group_new (x ∷ es) [] e g q h = absurd (omega arith)
group_new (x ∷ es) (y ∷ gs) e g q h = rw (ne_eqb x e (h 0 (suc-le-suc zero-le))) (group_new es gs e g (omega arith) (λ j p. h (suc j) (suc-le-suc p)))

-- one more entry leaves the others' groups
group_old : (es gs : List ℕ) (e g k : ℕ) → length es ≡ length gs → (e ≡ k → ⊥) → group_of (es ++ (e ∷ [])) (gs ++ (g ∷ [])) k ≡ group_of es gs k
unfolding group_of
group_old [] [] e g k q h = rw (ne_eqb e k h)
group_old [] (x ∷ gs) e g k q h = absurd (omega arith)
group_old (x ∷ es) [] e g k q h = absurd (omega arith)
group_old (x ∷ es) (y ∷ gs) e g k q h = ap (pick (eqb x k) y) (group_old es gs e g k (omega arith) h)

-- v for v changes nothing
pub replaced_self : (v p : ℕ) → replaced v v p ≡ p
replaced_self v p = by (ℕ_discrete p v)
  where
    by : Dec (p ≡ v) → replaced v v p ≡ p
    by (yes q) = rw (eq-eqb p v q) (sym q)
    by (no q) = rw (ne_eqb p v q)

-- nor in a row
row_self : (v : ℕ) (l : List ℕ) → map (replaced v v) l ≡ l
row_self v [] = refl
row_self v (x ∷ l) = ap₂ (λ (y : ℕ) (r : List ℕ). y ∷ r) (replaced_self v x) (row_self v l)

-- nor in a triangle
retargeted_self : (v : ℕ) (t : Triangle) → retargeted v v t ≡ t
retargeted_self v t = λ i. record { corners = row_self v t.corners i; volume = t.volume; stress = t.stress }

-- what the fan's first elements do to triangle k
abbrev turn : ℕ → ℕ → List ℕ → List ℕ → ℕ → Triangle → Triangle
turn v n es gs k = retargeted v (copy_for_of v n (group_of es gs k))

-- at the head of the loop: the first i elements are rewired
pub record Rewiring (v n : ℕ) (es gs s₀ s : List ℕ) (i : ℕ) : Type 0 where
  pub mapped : Mapped (λ k. retargeted v (copy_for_of v n (group_of (take i es) (take i gs) k))) s₀ s
  pub long : length s ≡ length s₀
  pub below : i ≤ length es

-- before the first turn nothing is rewired
pub rewiring_start : (v n : ℕ) (es gs s : List ℕ) → Rewiring v n es gs s s 0
unfolding group_of
rewiring_start v n es gs s =
    record {
      mapped = record { triangles = λ m f h. sym (map_at_same _ (triangles_at m s f) (λ k t. retargeted_self v t)) };
      long = refl;
      below = zero-le;
    }

module _ (v n : ℕ) (es gs : List ℕ) (i : ℕ) (paired : length es ≡ length gs) (here : i < length es)
    (new : (j : ℕ) → j < i → get_or es j 0 ≡ get_or es i 0 → ⊥) where
  -- the turn of element i after those before it is the turn of i + 1 elements
  turns : (k : ℕ) (t : Triangle) → only_at (get_or es i 0) (retargeted v (copy_for_of v n (get_or gs i 0))) k (turn v n (take i es) (take i gs) k t) ≡ turn v n (take (i + 1) es) (take (i + 1) gs) k t
  turns k t = rw (add-one, take-suc es i 0 here, take-suc gs i 0 (omega arith)) (by (ℕ_discrete k (get_or es i 0)))
    where
      le : length (take i es) ≡ i
      le = length-take-le i es (omega arith)

      eq : length (take i es) ≡ length (take i gs)
      eq = le ∙ sym (length-take-le i gs (omega arith))

      fresh : (j : ℕ) → j < length (take i es) → get_or (take i es) j 0 ≡ get_or es i 0 → ⊥
      fresh j p q = let p' : j < i = rw le at p in new j p' (sym (get_or-take i es j 0 p') ∙ q)

      by : Dec (k ≡ get_or es i 0)
          → only_at (get_or es i 0) (retargeted v (copy_for_of v n (get_or gs i 0))) k (turn v n (take i es) (take i gs) k t)
          ≡ turn v n (take i es ++ (get_or es i 0 ∷ [])) (take i gs ++ (get_or gs i 0 ∷ [])) k t
      by (yes q) = rw (eq-eqb k (get_or es i 0) q, q, absent (take i es) (take i gs) (get_or es i 0) fresh, group_new (take i es) (take i gs) (get_or es i 0) (get_or gs i 0) eq fresh) (ap (retargeted v (copy_for_of v n (get_or gs i 0))) (retargeted_self v t))
      by (no q) = rw (ne_eqb k (get_or es i 0) q, group_old (take i es) (take i gs) (get_or es i 0) (get_or gs i 0) k eq (λ r. q (sym r)))

  -- a turn rewires one element more
  pub rewiring_more :
      (s₀ s s' : List ℕ) → Rewiring v n es gs s₀ s i → Mapped (only_at (get_or es i 0) (retargeted v (copy_for_of v n (get_or gs i 0)))) s s' → length s' ≡ length s → Rewiring v n es gs s₀ s' (i + 1)
  rewiring_more s₀ s s' r m l =
      record {
        mapped =
            record {
              triangles =
                  λ N f h.
                  m.triangles N f (rw r.long h) ∙ ap (map_at_of (only_at (get_or es i 0) (retargeted v (copy_for_of v n (get_or gs i 0))))) (r.mapped.triangles N f h)
                  ∙ map_at_map_at _ _ (triangles_at N s₀ f)
                  ∙ map_at_ext _ _ (triangles_at N s₀ f) turns;
            };
        long = l ∙ r.long;
        below = omega arith;
      }

-- after the last turn the whole fan is rewired
pub rewiring_done :
    (v n : ℕ) (es gs s₀ s : List ℕ) (i : ℕ) → Rewiring v n es gs s₀ s i → length es ≤ i → length es ≡ length gs
    → Mapped (λ k. retargeted v (copy_for_of v n (group_of es gs k))) s₀ s
rewiring_done v n es gs s₀ s i r h p =
    let e : i ≡ length es = omega (arith, r.below) in
    let f : i ≡ length gs = e ∙ p in
    let te : take i es ≡ es = ap (λ (k : ℕ). take k es) e ∙ take-length es in
    let tg : take i gs ≡ gs = ap (λ (k : ℕ). take k gs) f ∙ take-length gs in
    simp (te, tg) at r.mapped

-- ---- as the definitions of a split have it

-- the group of an element, by the numbers and the groups of the fan's parts
pub group_at : (ps : List Part) (k : ℕ) → group_of (map (λ (p : Part). p.number) ps) (map (λ (p : Part). p.group) ps) k ≡ group_at_of ps k
unfolding group_of group_at_of
group_at [] k = refl
group_at (p ∷ ps) k = ap (pick (eqb p.number k) p.group) (group_at ps k)

-- corners rewired by a fan's numbers and groups are the triangles of its opening
pub rewired_as :
    (O : Opening) (es gs corners corners' : List ℕ) → es ≡ map (λ (p : Part). p.number) O.fan → gs ≡ map (λ (p : Part). p.group) O.fan
    → Mapped (λ k. retargeted O.v (copy_for_of O.v O.before (group_of es gs k))) corners corners'
    → (n : ℕ) (volumes : List Float) → n ≤ length corners / 3 → triangles_at n corners' volumes ≡ rewired_triangles Triangles O (triangles_at n corners volumes)
unfolding rewired_triangles
rewired_as O es gs corners corners' e g m n volumes h =
    m.triangles n volumes h
    ∙ map_at_ext _ _ (triangles_at n corners volumes)
    (λ k t. ap (λ (j : ℕ). retargeted O.v (copy_for_of O.v O.before j) t) (ap₂ (λ (x y : List ℕ). group_of x y k) e g ∙ group_at O.fan k))
