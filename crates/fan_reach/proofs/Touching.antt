-- Laws of a label that reaches neighbours one by one, in whichever order and some of them twice.
-- Assumes nothing.
use mathlib.Core.Path.{◌≡◌, refl, sym, ◌∙◌, ap, subst}
use mathlib.Core.Bool.{true, false}
use mathlib.Core.Logic.{◌⊎◌, inl, inr, ⊎_elim}
use mathlib.Core.List.{List}
use Prim.Native.Nat.{ℕ, ◌+◌, ◌*◌, ◌/◌, ◌%◌, ◌<◌, ◌≤◌, zero-le}
use native.Mathlib.Omega.{arith}
use native.Mathlib.Decide.{ℕ_discrete, dec_lt}
use borrow.Author.Tests.{lt-ltb, le-ltb}
use lib.ListN.{length, get_or, set}
use Rattle.fan.specs.Fan.{Fan, size, near_test}
use Rattle.fan_reach.specs.Spread.{label_at, Beside, beside_test, Reached, Reaching, Touching}
use Rattle.lists.proofs.Stores.{at_eq}
use Rattle.fan_reach.specs.Corners.{chain_of, FirstFrom, LinkedFrom, Holds, Meets}
use Rattle.fan_reach.proofs.Corners.{meets_all}
use Rattle.fan.proofs.Shared.{near_yes, near_no}
use Rattle.fan_reach.proofs.Spreading.{low_done, touched_label, reach, reach_own, reach_kept, reach_waiting, reach_here, reach_still}

-- ---- the test of neighbours in whichever order

pub beside_up : (F : Fan) (a j : ℕ) → a < j → near_test F a j ≡ beside_test F a j
beside_up F a j l = rw (lt-ltb a j l)

pub beside_down : (F : Fan) (a j : ℕ) → j ≤ a → near_test F j a ≡ beside_test F a j
beside_down F a j l = rw (le-ltb a j l)

pub beside_yes : (F : Fan) (a j : ℕ) → (a ≡ j → ⊥) → a < size F → j < size F → beside_test F a j ≡ true → Beside F a j
beside_yes F a j ne la lj e =
    elim (dec_lt a j) [
      | yes l ↦ inl (near_yes F a j l lj (beside_up F a j l ∙ e))
      | no l ↦ inr (near_yes F j a (omega arith) la (beside_down F a j (omega arith) ∙ e))
    ]

pub beside_no : (F : Fan) (a j : ℕ) → beside_test F a j ≡ false → Beside F a j → ⊥
beside_no F a j e w =
    ⊎_elim
    (λ n. let o = n.order in near_no F a j (beside_up F a j o ∙ e) n)
    (λ n. let o = n.order in near_no F j a (beside_down F a j (omega arith) ∙ e) n)
    w

-- ---- steps

-- nothing is done for none
pub touching_none : {F : Fan} {i a : ℕ} {t : List ℕ} {P : ℕ → Type 0} → Reached F i a t → ((b : ℕ) → P b → ⊥) → Touching F i a t t P
touching_none R none = record { reached = R; kept = λ b m. m; same = refl; still = λ b e. e; done = λ b p w. absurd (none b p) }

-- one after the other; each that R names is named by P or by Q
pub touching_then : {F : Fan} {i a : ℕ} {t q r : List ℕ} {P Q R : ℕ → Type 0} → Touching F i a t q P → Touching F i a q r Q
    → ((b : ℕ) → R b → P b ⊎ Q b) → Touching F i a t r R
touching_then T U either =
    record {
      reached = U.reached;
      kept = λ b m. U.kept b (T.kept b m);
      same = U.same ∙ T.same;
      still = λ b e. U.still b (T.still b e);
      done = λ b p w. ⊎_elim (λ x. U.still b (T.done b x w)) (λ x. U.done b x w) (either b p);
    }

-- what holds of more holds of fewer
pub touching_less : {F : Fan} {i a : ℕ} {t q : List ℕ} {P Q : ℕ → Type 0} → Touching F i a t q P → ((b : ℕ) → Q b → P b) → Touching F i a t q Q
touching_less T sub = record { reached = T.reached; kept = T.kept; same = T.same; still = T.still; done = λ b x w. T.done b (sub b x) w }

pub touching_at : {F : Fan} {i a : ℕ} {t q r : List ℕ} {P : ℕ → Type 0} → r ≡ q → Touching F i a t q P → Touching F i a t r P
touching_at {F} {i} {a} {t} {q} {r} {P} e T = subst (λ (l : List ℕ). Touching F i a t l P) (sym e) T

-- where every neighbour is named, all have been looked at
pub touching_all : {F : Fan} {i a : ℕ} {t q : List ℕ} {P : ℕ → Type 0} → Touching F i a t q P → ((b : ℕ) → Beside F a b → P b) → Reaching F i a t q (size F)
touching_all T all =
    record {
      above = T.reached.lowest;
      upto = omega arith;
      reached = T.reached;
      kept = T.kept;
      same = T.same;
      done = λ b l w. T.done b (all b w) w;
    }

-- ---- one element

module _ {F : Fan} {i a : ℕ} {t : List ℕ} (R : Reached F i a t) (j : ℕ) where
  -- nothing is done where j, if it is a neighbour, has the label
  pub touch_pass : (Beside F a j → label_at F t j ≡ i) → Touching F i a t t (λ b. b ≡ j)
  touch_pass has =
      record {
        reached = R;
        kept = λ b m. m;
        same = refl;
        still = λ b e. e;
        done = λ b e w. subst (λ (m : ℕ). Beside F a m → label_at F t m ≡ i) (sym e) has w;
      }

  -- one that is not above the label, or was touched before
  pub touch_low : j ≤ i → Touching F i a t t (λ b. b ≡ j)
  touch_low l = touch_pass (low_done R.spreading a R.has R.lowest j (omega arith))

  pub touch_old : (get_or t j 0 ≡ j → ⊥) → Touching F i a t t (λ b. b ≡ j)
  touch_old ne = touch_pass (touched_label R.spreading a j R.has R.lowest ne)

  -- no neighbour
  pub touch_miss : beside_test F a j ≡ false → Touching F i a t t (λ b. b ≡ j)
  touch_miss e = touch_pass (λ w. absurd (beside_no F a j e w))

  -- an untouched neighbour
  pub touch_reach : i < j → j < size F → get_or t j 0 ≡ j → beside_test F a j ≡ true → Touching F i a t (set t j i) (λ b. b ≡ j)
  touch_reach ij lj free e =
      let S = R.spreading in
      let la = R.within in
      let own = R.has in
      let w = beside_yes F a j (λ d. let x = at_eq t d in omega arith) la lj e in
      record {
        reached = record { spreading = reach S a j la own ij lj free w; within = la; lowest = R.lowest; has = reach_own S a j la own ij lj free w };
        kept = reach_kept S a j la own ij lj free w;
        same = reach_waiting S a j la own ij lj free w;
        still = reach_still S a j la own ij lj free w;
        done = λ b e v. subst (λ (m : ℕ). label_at F (set t j i) m ≡ i) (sym e) (reach_here S a j la own ij lj free w);
      }

-- ---- along the chain of the particle x: a, whose elements before place p that hold x have been looked at

pub record Walking (F : Fan) (i a x : ℕ) (t q : List ℕ) (p : ℕ) : Type 0 where
  pub touching : Touching F i a t q (Holds F x p)
  pub along : p < length F.verts → chain_of F.verts p ≡ x % 64

module _ {F : Fan} {i a : ℕ} {heads nexts : List ℕ} (L : LinkedFrom F.verts heads nexts 0) (x : ℕ) where
  pub walking_start : {t : List ℕ} (p : ℕ) → Reached F i a t → p ≡ get_or heads (x % 64) 0 → Walking F i a x t t p
  walking_start {t} p R e =
      let H : FirstFrom F.verts (x % 64) 0 p = subst (λ (m : ℕ). FirstFrom F.verts (x % 64) 0 m) (sym e) (L.head (x % 64) (omega arith)) in
      record {
        touching = touching_none R (λ b h. let f = H.first h.0 zero-le h.1.1.0 (ap (λ (m : ℕ). m % 64) h.1.1.1.0) in omega (arith, h.1.0));
        along = H.inside;
      }

  -- place p has been looked at, and the next one of its chain follows
  module _ {t q : List ℕ} {p : ℕ} (W : Walking F i a x t q p) (l : p < length F.verts) where
    -- an element that holds x before the next place holds it before p, or at p
    passed : (e : ℕ) → FirstFrom F.verts (x % 64) (p + 1) e → (b : ℕ) → Holds F x e b → Holds F x p b ⊎ ((get_or F.verts p 0 ≡ x) × (p / F.k ≡ b))
    passed e N b h =
        elim (dec_lt h.0 p) [
          | yes o ↦ inl (h.0, (o, h.1.1))
          | no o ↦
              elim (ℕ_discrete h.0 p) [
                | yes g ↦ inr (at_eq F.verts (sym g) ∙ h.1.1.1.0, ap (λ (m : ℕ). m / F.k) (sym g) ∙ h.1.1.1.1)
                | no g ↦
                    let f = N.first h.0 (omega arith) h.1.1.0 (ap (λ (m : ℕ). m % 64) h.1.1.1.0) in
                    absurd (omega (arith, h.1.0))
              ]
        ]

    walking_on : {r : List ℕ} (e : ℕ) → e ≡ get_or nexts p 0 → Touching F i a q r (λ b. (get_or F.verts p 0 ≡ x) × (p / F.k ≡ b)) → Walking F i a x t r e
    walking_on {r} e d U =
        let N : FirstFrom F.verts (x % 64) (p + 1) e =
        subst (λ (b : ℕ). FirstFrom F.verts b (p + 1) e) (W.along l)
        (subst (λ (m : ℕ). FirstFrom F.verts (chain_of F.verts p) (p + 1) m) (sym d) (L.next p zero-le l)) in
        record { touching = touching_then W.touching U (passed e N); along = N.inside }

    -- it holds x, and its element was looked at; or it does not hold x
    pub walking_hit : {r : List ℕ} (e : ℕ) → e ≡ get_or nexts p 0 → Touching F i a q r (λ b. b ≡ p / F.k) → Walking F i a x t r e
    walking_hit e d U = walking_on e d (touching_less U (λ b h. sym h.1))

    pub walking_pass : (e : ℕ) → e ≡ get_or nexts p 0 → (get_or F.verts p 0 ≡ x → ⊥) → Walking F i a x t q e
    walking_pass e d ne = walking_on e d (touching_none W.touching.reached (λ b h. ne h.0))

    -- the walk goes up
    pub walking_up : (e : ℕ) → e ≡ get_or nexts p 0 → p < e
    walking_up e d = let h = (L.next p zero-le l).behind in omega arith

pub walking_at : {F : Fan} {i a x p : ℕ} {t q r : List ℕ} → r ≡ q → Walking F i a x t q p → Walking F i a x t r p
walking_at {F} {i} {a} {x} {p} {t} {q} {r} e W = subst (λ (l : List ℕ). Walking F i a x t l p) (sym e) W

pub walking_end : {F : Fan} {i a x p : ℕ} {t q : List ℕ} → Walking F i a x t q p → length F.verts ≤ p → Touching F i a t q (Holds F x (length F.verts))
walking_end W l = touching_less W.touching (λ b h. (h.0, (omega (arith, h.1.0), h.1.1)))

-- ---- along the corners of a: those before place p have been looked at

module _ {F : Fan} {i a f : ℕ} where
  pub corners_start : {t : List ℕ} → Reached F i a t → Touching F i a t t (Meets F f f)
  corners_start R = touching_none R (λ b h. omega (arith, h.1.0, h.1.1.0))

  module _ {t q : List ℕ} (p : ℕ) (T : Touching F i a t q (Meets F f p)) where
    -- one that is met up to p is met before p, or at p
    met : (b : ℕ) → Meets F f (p + 1) b → Meets F f p b ⊎ ((get_or F.verts p 0 ≡ F.v → ⊥) × Holds F (get_or F.verts p 0) (length F.verts) b)
    met b h =
        elim (ℕ_discrete h.0 p) [
          | yes e ↦ inr (subst (λ (m : ℕ). (get_or F.verts m 0 ≡ F.v → ⊥) × Holds F (get_or F.verts m 0) (length F.verts) b) e h.1.1.1)
          | no n ↦ inl (h.0, (h.1.0, (omega (arith, h.1.1.0), h.1.1.1)))
        ]

    corners_on : {r : List ℕ} → Touching F i a q r (λ b. (get_or F.verts p 0 ≡ F.v → ⊥) × Holds F (get_or F.verts p 0) (length F.verts) b)
        → Touching F i a t r (Meets F f (p + 1))
    corners_on U = touching_then T U met

    -- another particle, whose holders were looked at; or v
    pub corners_other : {r : List ℕ} → Touching F i a q r (Holds F (get_or F.verts p 0) (length F.verts)) → Touching F i a t r (Meets F f (p + 1))
    corners_other U = corners_on (touching_less U (λ b h. h.1))

    pub corners_own : get_or F.verts p 0 ≡ F.v → Touching F i a t q (Meets F f (p + 1))
    corners_own e = corners_on (touching_none T.reached (λ b h. h.0 e))

-- every neighbour is met
pub corners_end : {F : Fan} {i a p : ℕ} {t q : List ℕ} → 0 < F.needed → p ≡ a * F.k + F.k → Touching F i a t q (Meets F (a * F.k) p) → Reaching F i a t q (size F)
corners_end {F} {i} {a} {p} {t} {q} n e T =
    touching_all (subst (λ (m : ℕ). Touching F i a t q (Meets F (a * F.k) m)) e T) (λ b w. meets_all F a b n w)
