-- Tests joined one by one: a conjunction, the first refusal, and the names of two and of three particles.
use Rattle.std.proofs.Common.{◌≡◌, ℕ, ◌/◌, ◌≤◌, Bool, true, false, not, ◌&&◌, eqb, ltb, leb, [], ◌∷◌, sym, refl, ap, ◌∙◌, arith, eq-eqb, ne_eqb, eqb-true, leb-true}
use Rattle.lists.specs.Lists.{pick}
use Rattle.columns.proofs.Rows.{both_true}
use Rattle.model.specs.Valid.{named}
use Rattle.mesh.specs.Given.{list_fits_of, lengths_fit}
use Rattle.mesh.specs.Widths.{point_columns}
use Rattle.mesh.specs.Refused.{number_of, refusal_in}
use Rattle.mesh.specs.declared.refusals.Refusal.{Refusal}
use Rattle.mesh.proofs.Refused.{refused_some, refusal_handed}
use Rattle.std.specs.Prelude.{Result}
use Rattle.std.specs.Result.{IsErrAnd}
use Rattle.judge.specs.Checks.{then_check}
use Rattle.lists.proofs.Truths.{untrue}

-- one test more
pub and_next : (z y x t u : Bool) → z ≡ (y && t) → y ≡ x → t ≡ u → z ≡ (x && u)
and_next z y x t u e p q = e ∙ ap (λ (b : Bool). b && t) p ∙ ap (λ (b : Bool). x && b) q

-- one refusal more
pub then_next : (z y x : ℕ) (t u : Bool) (n : ℕ) → z ≡ then_check y t n → y ≡ x → t ≡ u → z ≡ then_check x u n
then_next z y x t u n e p q = e ∙ ap (λ (k : ℕ). then_check k t n) p ∙ ap (λ (b : Bool). then_check x b n) q

-- a refusal that is there stays
pub then_stays : (code : ℕ) (t : Bool) (n : ℕ) → (code ≡ 0 → ⊥) → code ≡ then_check code t n
unfolding then_check
then_stays code t n h = rw (ne_eqb code 0 h) refl

-- the first test of all: one that holds refuses nothing, one that does not is the refusal
pub then_held : (t : Bool) (n : ℕ) → t ≡ true → 0 ≡ then_check 0 t n
unfolding then_check
then_held t n h = rw h refl

pub then_denied : (t : Bool) (n : ℕ) → t ≡ false → n ≡ then_check 0 t n
unfolding then_check
then_denied t n h = rw h refl

-- what a `?` hands on stays
pub then_handed : {A : Type 0} (r : Result A Refusal) (e : Refusal) (y x : ℕ) (t u : Bool) (n m : ℕ) → IsErrAnd r (λ d. d ≡ e) → number_of e ≡ then_check y t n → y ≡ x → t ≡ u → (w : Bool) → refusal_in r ≡ then_check (then_check x u n) w m
then_handed r e y x t u n m h k p q w =
    then_next _ _ _ _ w m (refusal_handed r e h ∙ then_stays (number_of e) w m (refused_some e)) (then_next _ _ _ _ _ n k p q) refl

-- where nothing refuses, this test holds, and nothing refused before
pub then_zero : (code : ℕ) (t : Bool) (n : ℕ) → (n ≡ 0 → ⊥) → then_check code t n ≡ 0 → (code ≡ 0) × (t ≡ true)
unfolding then_check
then_zero code t n ne e = by (eqb code 0) t refl e
  where
    by : (s u : Bool) → eqb code 0 ≡ s → pick s (pick u 0 n) code ≡ 0 → (code ≡ 0) × (u ≡ true)
    by true true f g = (eqb-true code 0 f, refl)
    by true false f g = absurd (ne g)
    by false u f g = untrue (sym f ∙ eq-eqb code 0 g)

-- sizes that were tested first fit, where nothing refuses
pub sizes_held : (z : ℕ) (t u : Bool) → z ≡ then_check 0 t 1 → t ≡ u → z ≡ 0 → u ≡ true
sizes_held z t u p q e = sym q ∙ (then_zero 0 t 1 (λ x. omega arith) (sym p ∙ e)).1

-- two names, as they are tested
names_two : (p q e : Bool) → ((p && not e) && q) ≡ (p && not (pick e true false) && (q && not false && true))
names_two true true true = refl
names_two true true false = refl
names_two true false true = refl
names_two true false false = refl
names_two false q e = refl

-- the same, as the definition names two
pub two_named : (n a b : ℕ) → ((ltb a n && not (eqb b a)) && ltb b n) ≡ named n (a ∷ b ∷ [])
unfolding named
two_named n a b = names_two (ltb a n) (ltb b n) (eqb b a)

-- three names, as they are tested
names_three : (p m e f : Bool) → (((p && not e) && not f) && m) ≡ (p && not (pick e true (pick f true false)) && m)
names_three true m true f = refl
names_three true m false true = refl
names_three true m false false = refl
names_three false m e f = refl

-- the same, as the definition names three
pub three_named : (n a b c : ℕ) → (((ltb a n && not (eqb b a)) && not (eqb c a)) && named n (b ∷ c ∷ [])) ≡ named n (a ∷ b ∷ c ∷ [])
unfolding named
three_named n a b c = names_three (ltb a n) (named n (b ∷ c ∷ [])) (eqb b a) (eqb c a)

-- ---- what sizes that fit tell

-- the two blocks of one list have equally many rows
pub list_told : (limit over a over' b : ℕ) → list_fits_of limit over a over' b ≡ true → (a ≡ b) × (a ≤ limit)
unfolding list_fits_of
list_told limit over a over' b e =
    let p = both_true (eqb over 0 && eqb over' 0 && eqb a b) (leb a limit) e in
    let q = both_true (eqb over 0 && eqb over' 0) (eqb a b) p.0 in
    (eqb-true a b q.1, leb-true a limit p.1)

-- the rows of each list, by the lengths of its two blocks, and that they are few
pub record Sized (lp lr lc lv le ll lo : ℕ) : Type 0 where
  pub particles : lp / point_columns ≡ lr / 2
  pub triangles : lc / 3 ≡ lv / 2
  pub edges : le / 4 ≡ ll / 4
  pub few_particles : lp / point_columns ≤ 1024
  pub few_triangles : lc / 3 ≤ 1024
  pub few_edges : le / 4 ≤ 2048
  pub few_sides : lo / 2 ≤ 2048

-- sizes that fit are such
pub sizes_told : (lp lr lc lv le ll lo : ℕ) → lengths_fit lp lr lc lv le ll lo ≡ true → Sized lp lr lc lv le ll lo
unfolding lengths_fit
sizes_told lp lr lc lv le ll lo e =
    let s = both_true _ _ e in
    let t = both_true _ _ s.0 in
    let u = both_true _ _ t.0 in
    let p = list_told _ _ _ _ _ u.0 in
    let q = list_told _ _ _ _ _ u.1 in
    let r = list_told _ _ _ _ _ t.1 in
    let o = list_told _ _ _ _ _ s.1 in
    record { particles = p.0; triangles = q.0; edges = r.0; few_particles = p.1; few_triangles = q.1; few_edges = r.1; few_sides = o.1 }
