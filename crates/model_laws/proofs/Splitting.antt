-- When a particle splits: never a pinned one, never one of a single element; always a free one whose fan has two groups. Assumes nothing.
use mathlib.Core.Path.{◌≡◌, refl, sym, ◌∙◌, ap, subst}
use mathlib.Core.Bool.{Bool, true, false, not, ◌&&◌, ◌||◌}
use mathlib.Core.List.{List, [], ◌∷◌, ◌++◌, map}
use Prim.Native.Nat.{ℕ, suc, ◌+◌, ◌-◌, ◌<◌, ◌≤◌}
use native.Mathlib.Omega.{arith}
use native.Mathlib.Decide.{dec_le}
use borrow.Author.Tests.{ltb-true, eqb-true, le-leb, lt-leb}
use lib.Dec.{leb, ltb}
use lib.ListN.{length, get_or}
use lib.Ieee.{eq, ne}
use Rattle.lists.specs.Lists.{pick, any, all, tab, up_to}
use Rattle.lists.specs.Chain.{Chain}
use Rattle.float.specs.Numbers.{zero32}
use Rattle.fan.specs.Fan.{Fan, Near, size, side}
use Rattle.fan.specs.Groups.{groups_of, count_of}
use Rattle.fan.proofs.Grouped.{grouped}
use Rattle.model.specs.Mesh.{Mesh}
use Rattle.model.specs.Elements.{Kind, particle, kind_of, fan_of, grid_of}
use Rattle.model.specs.Run.{Entry, split as split_entry, Run, step_to, changes, changed}
use Rattle.model.specs.Split.{Opening, opening_of, splits?, made, at_longest, settled, split_entries, split_made, split_step, split_by_sides_of}
use Rattle.model.specs.Calls.{sides_ok}
use Rattle.model.specs.Trace.{All}
use Rattle.model_laws.proofs.Traced.{copied_length, Still}
use Rattle.model_laws.proofs.Laws.{both, all_at}
use Rattle.lists.proofs.Sifts.{and_true}

-- ---- the sides that a call accepts

-- v is there, with a side, 0 or 1, for each element of its fan
pub record Sided (k : Kind) (M : Mesh) (v : ℕ) (sides : List ℕ) : Type 0 where
  pub here : v < length M.particles
  pub two : All (λ s. s < 2) sides
  pub every : length sides ≡ length (fan_of k M v)

two_all : (l : List ℕ) → all (λ s. ltb s 2) l ≡ true → All (λ s. s < 2) l
unfolding all
two_all [] e = tt
two_all (s ∷ l) e = let p = and_true _ _ e in (ltb-true s 2 p.0, two_all l p.1)

pub sides_accepted : (M : Mesh) (v : ℕ) (sides : List ℕ) → sides_ok M v sides ≡ true → Sided (kind_of M) M v sides
unfolding sides_ok
sides_accepted M v sides e =
    let p = and_true _ _ e in
    let q = and_true _ _ p.0 in
    record { here = ltb-true _ _ q.0; two = two_all sides q.1; every = eqb-true _ _ p.1 }

-- ---- no split

step_not : (b : Bool) (S R : Run) → b ≡ false → pick b S R ≡ R
step_not true S R e = absurd (let z : ◌≡◌ {A = ℕ} 0 1 = cc in omega arith)
step_not false S R e = refl

and_not : (a b : Bool) → b ≡ false → (a && b) ≡ false
and_not true b e = e
and_not false b e = refl

not_and : (a b : Bool) → a ≡ false → (a && b) ≡ false
not_and true b e = absurd (let z : ◌≡◌ {A = ℕ} 0 1 = cc in omega arith)
not_and false b e = refl

-- a pinned particle: unchanged
pub pinned_stays : (k : Kind) (v : ℕ) (sides : List ℕ) (R : Run) → eq (particle R.mesh v).inv zero32 ≡ true → split_by_sides_of k v sides R ≡ R
unfolding split_by_sides_of split_step splits? opening_of ne
pinned_stays k v sides R e =
    let O = opening_of k R.mesh v sides in
    step_not (splits? O R.mesh) (split_made [] (λ M. M) k O R) R (and_not (leb 2 O.count) (ne (particle R.mesh v).inv zero32) (ap not e))

-- fewer than two groups: unchanged
pub one_group_stays : (k : Kind) (v : ℕ) (sides : List ℕ) (R : Run) → count_of (grid_of k v (fan_of k R.mesh v) sides) < 2 → split_by_sides_of k v sides R ≡ R
unfolding split_by_sides_of split_step splits? opening_of
one_group_stays k v sides R l =
    let O = opening_of k R.mesh v sides in
    step_not (splits? O R.mesh) (split_made [] (λ M. M) k O R) R (not_and (leb 2 O.count) (ne (particle R.mesh v).inv zero32) (lt-leb 2 O.count l))

-- one element, or none, has fewer than two groups
few_groups : (F : Fan) → ((a : ℕ) → a < size F → side F a < 2) → size F ≤ 1 → count_of F < 2
few_groups F two l =
    elim (dec_le 2 (count_of F)) [
      | yes h ↦
          let G = grouped F two in
          let x = G.used 0 (omega arith) in
          let y = G.used 1 (omega arith) in
          let i = x.1.0 in
          let j = y.1.0 in
          let e : x.0 ≡ y.0 = omega arith in
          let d : ◌≡◌ {A = ℕ} 0 1 = sym x.1.1 ∙ ap (λ a. get_or (groups_of F) a 0) e ∙ y.1.1 in
          absurd (omega arith)
      | no h ↦ omega arith
    ]

-- one element: unchanged
pub one_element_stays : (k : Kind) (v : ℕ) (sides : List ℕ) (R : Run) → Sided k R.mesh v sides → length (fan_of k R.mesh v) ≤ 1 → split_by_sides_of k v sides R ≡ R
unfolding grid_of
one_element_stays k v sides R S l =
    one_group_stays k v sides R (few_groups (grid_of k v (fan_of k R.mesh v) sides) (λ a h. all_at (λ s. s < 2) sides a 0 (omega arith) S.two) (let e = S.every in omega arith))

-- ---- a split

-- two elements that no chain of neighbours joins are two groups
pub two_groups : (F : Fan) → ((a : ℕ) → a < size F → side F a < 2) → (i j : ℕ) → i < size F → j < size F → (Chain (Near F) i j → ⊥) → 2 ≤ count_of F
two_groups F two i j p q apart =
    let G = grouped F two in
    let a = G.below i p in
    let b = G.below j q in
    elim (dec_le 2 (count_of F)) [ yes h ↦ h | no h ↦ let e : get_or (groups_of F) i 0 ≡ get_or (groups_of F) j 0 = omega arith in absurd (apart (G.joined i j p q e)) ]

-- S is R with v split: a copy or more behind the particles, the first of them logged next, and the run says that it changed
pub record Grown (v : ℕ) (R S : Run) : Type 0 where
  pub others : ℕ
  pub particles : length S.mesh.particles ≡ length R.mesh.particles + suc others
  pub behind : List Entry
  pub log : S.log ≡ R.log ++ (split_entry (length R.mesh.particles) v ∷ behind)
  pub says : changed S ≡ true

any_behind : (a : List Entry) (x : Entry) (b : List Entry) → changes x ≡ true → any changes (a ++ (x ∷ b)) ≡ true
unfolding any
any_behind [] x b e = rw e
any_behind (y ∷ a) x b e = or_right (changes y) _ (any_behind a x b e)
  where
    or_right : (c d : Bool) → d ≡ true → (c || d) ≡ true
    or_right true d e = refl
    or_right false d e = e

made_first : (n v k : ℕ) → (l : List Entry) × (map (λ c. split_entry c v) (map (λ g. n + g) (up_to (suc k))) ≡ split_entry n v ∷ l)
unfolding up_to tab
made_first n v k =
    let e : n + 0 ≡ n = omega arith in (
      map (λ c. split_entry c v) (map (λ g. n + g) (tab k (λ i. suc i))),
      ap (λ x. split_entry x v ∷ map (λ c. split_entry c v) (map (λ g. n + g) (tab k (λ i. suc i)))) e,
    )

module _ (k : Kind) (O : Opening) (R : Run) (before : O.before ≡ length R.mesh.particles) (two : 2 ≤ O.count) (more : List Entry) (f : Mesh → Mesh) (still : Still f) where
  module _ (gone : List Entry) (e b : ℕ) where
    next : Run
    next = step_to R (f (settled k O (at_longest k O R.mesh))) (split_entries O ++ gone ++ more) e b

    count_is : O.count - 1 ≡ suc (O.count - 2)
    count_is = omega arith

    entries : (l : List Entry) × (split_entries O ≡ split_entry (length R.mesh.particles) O.v ∷ l)
    unfolding split_entries made
    entries = rw (count_is, before) (made_first (length R.mesh.particles) O.v (O.count - 2))

    logged : next.log ≡ R.log ++ (split_entry (length R.mesh.particles) O.v ∷ (entries.0 ++ gone ++ more))
    unfolding next step_to
    logged = ap (λ (l : List Entry). R.log ++ (l ++ gone ++ more)) entries.1

    longer : length next.mesh.particles ≡ length R.mesh.particles + suc (O.count - 2)
    unfolding next step_to settled at_longest
    longer = (still (settled k O (at_longest k O R.mesh))).1 ∙ copied_length O R.mesh.particles ∙ ap (λ n. length R.mesh.particles + n) count_is

    made_grown : Grown O.v R next
    unfolding changed
    made_grown =
        record {
          others = O.count - 2;
          particles = longer;
          behind = entries.0 ++ gone ++ more;
          log = logged;
          says = ap (any changes) logged ∙ any_behind R.log (split_entry (length R.mesh.particles) O.v) (entries.0 ++ gone ++ more) refl;
        }

  pub step_grown : Grown O.v R (split_made more f k O R)
  unfolding split_made next
  step_grown = made_grown _ _ _

step_yes : (b : Bool) (S R : Run) → b ≡ true → pick b S R ≡ S
step_yes true S R e = refl
step_yes false S R e = absurd (let z : ◌≡◌ {A = ℕ} 0 1 = cc in omega arith)

-- two groups at a free particle do split
pub free_splits : (k : Kind) (v : ℕ) (sides : List ℕ) (R : Run) → ne (particle R.mesh v).inv zero32 ≡ true → 2 ≤ count_of (grid_of k v (fan_of k R.mesh v) sides)
    → Grown v R (split_by_sides_of k v sides R)
unfolding split_by_sides_of split_step splits? opening_of
free_splits k v sides R free two =
    let O = opening_of k R.mesh v sides in
    subst (Grown v R) (sym (step_yes (splits? O R.mesh) (split_made [] (λ M. M) k O R) R (both _ _ (le-leb 2 _ two) free))) (step_grown k O R refl two [] (λ M. M) (λ M. (refl, refl)))

-- so do two elements of one fan that no chain of neighbours joins
pub parted_splits : (k : Kind) (v : ℕ) (sides : List ℕ) (R : Run) → ne (particle R.mesh v).inv zero32 ≡ true → Sided k R.mesh v sides
    → (i j : ℕ) → i < length sides → j < length sides → (Chain (Near (grid_of k v (fan_of k R.mesh v) sides)) i j → ⊥) → Grown v R (split_by_sides_of k v sides R)
unfolding grid_of
parted_splits k v sides R free S i j p q apart =
    free_splits k v sides R free (two_groups (grid_of k v (fan_of k R.mesh v) sides) (λ a h. all_at (λ s. s < 2) sides a 0 (omega arith) S.two) i j p q apart)
