-- Laws of the elements of a fan: the tables as the parts of an opening have them, ends replaced, and the loop over the straps. Assumes nothing.
use Prim.Native.Nat.{ℕ, zero, suc, ◌+◌, ◌/◌, ◌≤◌, ◌<◌, zero-le, suc-le-suc}
use native.Mathlib.Nat.{le_of_suc-le-suc, not-suc-le-zero}
use native.Mathlib.Numerals.{add-one}
use native.Mathlib.Decide.{ℕ_discrete}
use native.Mathlib.Omega.{arith}
use mathlib.Core.Path.{◌≡◌, refl, sym, ap, ap₂, ◌∙◌, subst}
use mathlib.Core.Bool.{Bool}
use mathlib.Core.List.{List, [], ◌∷◌, map}
use lib.ListN.{length, get_or, take}
use lib.Seq.{length-take-le, get_or-take, ext_get_or}
use lib.Dec.{eqb}
use borrow.Author.Tests.{eq-eqb, ne_eqb}
use Rattle.lists.specs.Lists.{pick, map_at_of}
use Rattle.lists.specs.Labels.{replaced}
use Rattle.lists.proofs.Stores.{map_at}
use Rattle.lists.proofs.Rows.{map_at_map_at, map_at_ext, map_at_same}
use Rattle.model.specs.Mesh.{Triangle, Edge}
use Rattle.model.specs.Split.{Part, Opening, group_at_of, rewired_straps, retargeted, moved, only_at, copy_for_of}
use Rattle.mesh.specs.At.{edges_at}
use Rattle.mesh.specs.Workers.{group_of, Mapped, FanOk}
use Rattle.mesh.proofs.Fan.{rewired_as, replaced_self, group_at}
use Rattle.split_plan.specs.Opened.{blank_part}
use Rattle.rewire.specs.Stages.{PartsBy, TrianglesRewired, StrapsRewired}
use Rattle.rewire.specs.Parts.{PartsRoom, EndsMapped}

-- ---- the tables and the parts of an opening

-- the length of a mapped list
length_map : {A B : Type 0} (f : A → B) (l : List A) → length (map f l) ≡ length l
length_map f [] = refl
length_map f (a ∷ l) = ap suc (length_map f l)

-- the front of a list is a list that agrees with it at each place
front_is : (l t : List ℕ) (n : ℕ) → n ≤ length l → length t ≡ n → ((i : ℕ) → i < n → get_or t i 0 ≡ get_or l i 0) → take n l ≡ t
front_is l t n h e q =
    ext_get_or 0 (take n l) t (length-take-le n l h ∙ sym e)
    (λ i p. let r : i < n = rw (length-take-le n l h) at p in get_or-take n l i 0 r ∙ sym (q i r))

module _ {O : Opening} {v before n : ℕ} {numbers groups : List ℕ} (B : PartsBy O v before n numbers groups) where
  -- the numbers of the parts
  pub numbers_are : n ≤ length numbers → take n numbers ≡ map (λ (p : Part). p.number) O.fan
  numbers_are h =
      let s = B.size in
      front_is numbers (map (λ (p : Part). p.number) O.fan) n h (length_map (λ (p : Part). p.number) O.fan ∙ s)
      (λ i l. map_at (λ (p : Part). p.number) O.fan i blank_part 0 (omega arith) ∙ B.numbered.number_is i l)

  -- their groups
  pub groups_are : n ≤ length groups → take n groups ≡ map (λ (p : Part). p.group) O.fan
  groups_are h = front_is groups (map (λ (p : Part). p.group) O.fan) n h (length_map (λ (p : Part). p.group) O.fan ∙ B.size) B.group_is

-- ---- triangles

-- the fronts of the tables are a fan that the corners hold
pub fan_ok : {before n lc : ℕ} {numbers groups : List ℕ} → PartsRoom before n (lc / 3) numbers groups → FanOk before (take n numbers) (take n groups) lc
fan_ok {before} {n} {lc} {numbers} {groups} R =
    let ln : length (take n numbers) ≡ n = length-take-le n numbers R.numbers_long in
    let lg : length (take n groups) ≡ n = length-take-le n groups R.groups_long in
    record {
      some = R.some;
      paired = ln ∙ sym lg;
      distinct = λ i j h l q. let r = R.rising i j h (omega arith) in let a = get_or-take n numbers i 0 (omega arith) in let b = get_or-take n numbers j 0 (omega arith) in omega arith;
      within = λ i l. let r = R.within i (omega arith) in let a = get_or-take n numbers i 0 (omega arith) in omega arith;
      small = λ i l. let r = R.small i (omega arith) in let a = get_or-take n groups i 0 (omega arith) in omega arith;
    }

-- corners rewired by the fronts of the tables
pub triangles_rewired :
    {v before n rows : ℕ} {numbers groups corners corners' : List ℕ} → PartsRoom before n rows numbers groups
    → Mapped (λ k. retargeted v (copy_for_of v before (group_of (take n numbers) (take n groups) k))) corners corners' → TrianglesRewired v before n numbers groups corners corners'
triangles_rewired {v} {before} {n} {rows} {numbers} {groups} {corners} {corners'} R m =
    record {
      triangles =
          λ O t volumes B h.
          let f : ℕ → ℕ → ℕ → Triangle → Triangle = λ u b k. retargeted u (copy_for_of u b (group_of (take n numbers) (take n groups) k)) in
          rewired_as O (take n numbers) (take n groups) corners corners' (numbers_are B R.numbers_long) (groups_are B R.groups_long)
          (subst (λ (u : ℕ). Mapped (f u O.before) corners corners') (sym B.at) (subst (λ (b : ℕ). Mapped (f v b) corners corners') (sym B.before_is) m))
          t volumes h;
    }

-- ---- the group of an element, as a loop over the tables finds it

-- two choices by different numbers can change places
picks_swap : (e x k a b c : ℕ) → (e ≡ x → ⊥) → pick (eqb e k) a (pick (eqb k x) b c) ≡ pick (eqb k x) b (pick (eqb e k) a c)
picks_swap e x k a b c ne = by (ℕ_discrete e k)
  where
    by : Dec (e ≡ k) → pick (eqb e k) a (pick (eqb k x) b c) ≡ pick (eqb k x) b (pick (eqb e k) a c)
    by (yes q) = rw (eq-eqb e k q, ne_eqb k x (λ r. ne (q ∙ r)))
    by (no q) = rw (ne_eqb e k q)

-- the order of an equality test
eqb_flip : (a b : ℕ) → eqb a b ≡ eqb b a
eqb_flip a b = by (ℕ_discrete a b)
  where
    by : Dec (a ≡ b) → eqb a b ≡ eqb b a
    by (yes q) = rw (eq-eqb a b q, eq-eqb b a (sym q))
    by (no q) = rw (ne_eqb a b q, ne_eqb b a (λ r. q (sym r)))

-- an element that comes later has group 0 so far
pub group_fresh : (es gs : List ℕ) (i : ℕ) → ((j : ℕ) → j < i → get_or es j 0 ≡ get_or es i 0 → ⊥) → group_of (take i es) (take i gs) (get_or es i 0) ≡ 0
unfolding group_of
group_fresh es gs zero h = refl
group_fresh [] gs (suc i) h = refl
group_fresh (e ∷ es) [] (suc i) h = refl
group_fresh (e ∷ es) (g ∷ gs) (suc i) h = rw (ne_eqb e (get_or es i 0) (h 0 (suc-le-suc zero-le))) (group_fresh es gs i (λ j p. h (suc j) (suc-le-suc p)))

-- one element more
group_step : (es gs : List ℕ) (i k : ℕ) → i < length es → i < length gs → ((j : ℕ) → j < i → get_or es j 0 ≡ get_or es i 0 → ⊥)
    → group_of (take (suc i) es) (take (suc i) gs) k ≡ pick (eqb k (get_or es i 0)) (get_or gs i 0) (group_of (take i es) (take i gs) k)
unfolding group_of
group_step [] gs i k l m h = absurd (not-suc-le-zero l)
group_step (e ∷ es) [] i k l m h = absurd (not-suc-le-zero m)
group_step (e ∷ es) (g ∷ gs) zero k l m h = ap (λ (t : Bool). pick t g 0) (eqb_flip e k)
group_step (e ∷ es) (g ∷ gs) (suc i) k l m h =
    ap (pick (eqb e k) g) (group_step es gs i k (le_of_suc-le-suc l) (le_of_suc-le-suc m) (λ j p. h (suc j) (suc-le-suc p)))
    ∙ picks_swap e (get_or es i 0) k g (get_or gs i 0) (group_of (take i es) (take i gs) k) (h 0 (suc-le-suc zero-le))

-- ---- straps

-- v for v changes no edge
pub moved_self : (v : ℕ) (e : Edge) → moved v v e ≡ e
moved_self v e =
    λ i.
    record {
      a = replaced_self v e.a i;
      b = replaced_self v e.b i;
      structural = e.structural;
      torn = e.torn;
      rest = e.rest;
      initial = e.initial;
      impulse = e.impulse;
      stress = e.stress;
    }

-- at the head of the loop: the straps of the first i parts are moved
pub record Moving (v before n : ℕ) (es gs s₀ s : List ℕ) (i : ℕ) : Type 0 where
  pub mapped : EndsMapped (λ k. moved v (copy_for_of v before (group_of (take i es) (take i gs) k))) s₀ s
  pub long : length s ≡ length s₀
  pub below : i ≤ n

-- before the first turn
pub moving_start : (v before n : ℕ) (es gs s : List ℕ) → Moving v before n es gs s s 0
unfolding group_of
moving_start v before n es gs s =
    record { mapped = record { edges = λ m f h. sym (map_at_same _ (edges_at m s f) (λ k t. moved_self v t)) }; long = refl; below = zero-le }

module _ {rows : ℕ} (v before n : ℕ) (es gs : List ℕ) (i : ℕ) (R : PartsRoom before n rows es gs) (here : i < n) where
  -- the turn of part i after those before it
  turns : (k : ℕ) (t : Edge)
      → only_at (get_or es i 0) (moved v (copy_for_of v before (get_or gs i 0))) k (moved v (copy_for_of v before (group_of (take i es) (take i gs) k)) t)
      ≡ moved v (copy_for_of v before (group_of (take (i + 1) es) (take (i + 1) gs) k)) t
  turns k t = rw (add-one i, group_step es gs i k (omega (arith, R.numbers_long)) (omega (arith, R.groups_long)) new) (by (ℕ_discrete k (get_or es i 0)))
    where
      new : (j : ℕ) → j < i → get_or es j 0 ≡ get_or es i 0 → ⊥
      new j p q = let r = R.rising j i p here in omega arith

      by : Dec (k ≡ get_or es i 0)
          → only_at (get_or es i 0) (moved v (copy_for_of v before (get_or gs i 0))) k (moved v (copy_for_of v before (group_of (take i es) (take i gs) k)) t)
          ≡ moved v (copy_for_of v before (pick (eqb k (get_or es i 0)) (get_or gs i 0) (group_of (take i es) (take i gs) k))) t
      by (yes q) = rw (eq-eqb k (get_or es i 0) q, q, group_fresh es gs i new) (ap (moved v (copy_for_of v before (get_or gs i 0))) (moved_self v t))
      by (no q) = rw (ne_eqb k (get_or es i 0) q)

  -- a turn moves one strap more
  pub moving_more :
      (s₀ s s' : List ℕ) → Moving v before n es gs s₀ s i → EndsMapped (only_at (get_or es i 0) (moved v (copy_for_of v before (get_or gs i 0)))) s s' → length s' ≡ length s
      → Moving v before n es gs s₀ s' (i + 1)
  moving_more s₀ s s' r m l =
      record {
        mapped =
            record {
              edges =
                  λ N f h.
                  m.edges N f (rw r.long h) ∙ ap (map_at_of (only_at (get_or es i 0) (moved v (copy_for_of v before (get_or gs i 0))))) (r.mapped.edges N f h)
                  ∙ map_at_map_at _ _ (edges_at N s₀ f)
                  ∙ map_at_ext _ _ (edges_at N s₀ f) turns;
            };
        long = l ∙ r.long;
        below = omega arith;
      }

-- after the last turn the straps of the fan are rewired
pub moving_done :
    {rows : ℕ} (v before n : ℕ) (es gs s₀ s : List ℕ) (i : ℕ) → PartsRoom before n rows es gs → Moving v before n es gs s₀ s i → n ≤ i → StrapsRewired v before n es gs s₀ s
unfolding rewired_straps
moving_done v before n es gs s₀ s i R r h =
    let e : i ≡ n = omega (arith, r.below) in
    record {
      straps =
          λ O m lengths B l.
          r.mapped.edges m lengths l
          ∙ map_at_ext _ _ (edges_at m s₀ lengths)
          (λ k t.
          let g : group_of (take i es) (take i gs) k ≡ group_at_of O.fan k =
          ap (λ (j : ℕ). group_of (take j es) (take j gs) k) e ∙ ap₂ (λ (x y : List ℕ). group_of x y k) (numbers_are B R.numbers_long) (groups_are B R.groups_long)
          ∙ group_at O.fan k in
          ap (λ (j : ℕ). moved v (copy_for_of v before j) t) g ∙ ap₂ (λ (u b : ℕ). moved u (copy_for_of u b (group_at_of O.fan k)) t) (sym B.at) (sym B.before_is));
    }
