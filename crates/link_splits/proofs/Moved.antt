-- Laws of the table in a split: the fan's cells are taken from v and linked anew, from the last to the first, at the copies of their groups. Assumes nothing.
use Prim.Native.Nat.{ℕ, zero, suc, ◌+◌, ◌*◌, ◌≤◌, ◌<◌, zero-le, suc-le-suc, ◌-◌}
use native.Mathlib.Nat.{not-suc-le-zero, le_of_suc-le-suc}
use native.Mathlib.Numerals.{add-one}
use native.Mathlib.Omega.{arith}
use native.Mathlib.Decide.{ℕ_discrete, dec_lt}
use borrow.Author.Tests.{eq-eqb, ne_eqb}
use mathlib.Core.Path.{◌≡◌, refl, sym, ap, ◌∙◌, subst}
use mathlib.Core.Bool.{Bool, true, false}
use mathlib.Core.Logic.{◌⊎◌, inl, inr, ⊎_elim}
use mathlib.Core.List.{List, [], ◌∷◌}
use lib.ListN.{length, get_or, set, length-set}
use lib.Seq.{get_or-set_same, get_or-set_other}
use Rattle.lists.specs.Lists.{pick, sift}
use Rattle.columns.specs.Block.{cell}
use Rattle.columns.proofs.Cells.{col_fits, apart, apart_col}
use Rattle.model.specs.Split.{copy_for_of}
use Rattle.mesh.specs.Workers.{group_of}
use Rattle.links.specs.Links.{lowest, holds, first_of, next_of, cells_of, LinksOf}
use Rattle.link_splits.specs.Splits.{corner_after, SplitRoom}
use Rattle.links.specs.Rooms.{CornersApart, RowRead, ColumnOf}
use Rattle.links.proofs.Lowest.{false_true, bool_both, low_end, low_step, low_none, low_skip, low_ext, holds_made, holds_get, holds_none}
use Rattle.links.proofs.Walked.{from, from_up_to}
use Rattle.lists.proofs.Truths.{not_true}

-- ---- a fan, place by place

-- the numbers rise, hold v, and are all that do
pub record FanIs (p : ℕ → Bool) (a n : ℕ) (numbers : List ℕ) : Type 0 where
  pub rising : (i j : ℕ) → i < j → j < length numbers → get_or numbers i 0 < get_or numbers j 0
  pub within : (i : ℕ) → i < length numbers → (a ≤ get_or numbers i 0) × (get_or numbers i 0 < n)
  pub holding : (i : ℕ) → i < length numbers → p (get_or numbers i 0) ≡ true
  pub every : (j : ℕ) → a ≤ j → j < n → p j ≡ true → (i : ℕ) × ((i < length numbers) × (get_or numbers i 0 ≡ j))

-- one number more in front, which passes
fan_here : (p : ℕ → Bool) (a n : ℕ) (l : List ℕ) → p a ≡ true → a < n → FanIs p (suc a) n l → FanIs p a n (a ∷ l)
fan_here p a n l e h F = record { rising = up; within = in_range; holding = held; every = all_of }
  where
    up : (i j : ℕ) → i < j → j < length (a ∷ l) → get_or (a ∷ l) i 0 < get_or (a ∷ l) j 0
    up i zero x y = absurd (not-suc-le-zero x)
    up zero (suc j) x y = let w = F.within j (le_of_suc-le-suc y) in omega (arith, w.0)
    up (suc i) (suc j) x y = F.rising i j (le_of_suc-le-suc x) (le_of_suc-le-suc y)

    in_range : (i : ℕ) → i < length (a ∷ l) → (a ≤ get_or (a ∷ l) i 0) × (get_or (a ∷ l) i 0 < n)
    in_range zero x = (omega arith, h)
    in_range (suc i) x = let w = F.within i (le_of_suc-le-suc x) in (omega (arith, w.0), w.1)

    held : (i : ℕ) → i < length (a ∷ l) → p (get_or (a ∷ l) i 0) ≡ true
    held zero x = e
    held (suc i) x = F.holding i (le_of_suc-le-suc x)

    all_of : (j : ℕ) → a ≤ j → j < n → p j ≡ true → (i : ℕ) × ((i < length (a ∷ l)) × (get_or (a ∷ l) i 0 ≡ j))
    all_of j x y q = by (ℕ_discrete a j)
      where
        by : Dec (a ≡ j) → (i : ℕ) × ((i < length (a ∷ l)) × (get_or (a ∷ l) i 0 ≡ j))
        by (yes r) = (0, (suc-le-suc zero-le, r))
        by (no r) = let g = F.every j (omega (arith, r)) y q in (suc g.0, (suc-le-suc g.1.0, g.1.1))

-- or does not
fan_there : (p : ℕ → Bool) (a n : ℕ) (l : List ℕ) → p a ≡ false → FanIs p (suc a) n l → FanIs p a n l
fan_there p a n l e F =
    record {
      rising = F.rising;
      within = λ i x. let w = F.within i x in (omega (arith, w.0), w.1);
      holding = F.holding;
      every = λ j x y q. let ne : a ≡ j → ⊥ = λ r. false_true e (ap p r ∙ q) in F.every j (omega (arith, ne)) y q;
    }

fan_sift : (p : ℕ → Bool) (a m : ℕ) → FanIs p a (a + m) (sift p (from a m))
unfolding sift
fan_sift p a zero =
    record { rising = λ i j x y. absurd (not-suc-le-zero y); within = λ i x. absurd (not-suc-le-zero x); holding = λ i x. absurd (not-suc-le-zero x); every = λ j x y q. absurd (omega arith) }
fan_sift p a (suc m) = by (p a) refl (let e : suc a + m ≡ a + suc m = omega arith in subst (λ (n : ℕ). FanIs p (suc a) n (sift p (from (suc a) m))) e (fan_sift p (suc a) m))
  where
    by : (b : Bool) → p a ≡ b → FanIs p (suc a) (a + suc m) (sift p (from (suc a) m)) → FanIs p a (a + suc m) (pick (p a) (a ∷ sift p (from (suc a) m)) (sift p (from (suc a) m)))
    by true q F = rw q (fan_here p a (a + suc m) _ q (omega arith) F)
    by false q F = rw q (fan_there p a (a + suc m) _ q F)

-- the cells that hold v are such a fan
pub fan_is : (k n : ℕ) (corner : ℕ → ℕ → ℕ) (v : ℕ) (numbers : List ℕ) → numbers ≡ cells_of k n corner v → FanIs (holds k corner v) 0 n numbers
unfolding cells_of
fan_is k n corner v numbers e =
    let z : 0 + n ≡ n = omega arith in
    subst (λ (l : List ℕ). FanIs (holds k corner v) 0 n l) (ap (sift (holds k corner v)) (from_up_to n) ∙ sym e) (subst (λ (m : ℕ). FanIs (holds k corner v) 0 m (sift (holds k corner v) (from 0 n))) z (fan_sift (holds k corner v) 0 n))

-- the group of a fan's cell
group_is : (es gs : List ℕ) (i : ℕ) → i < length es → length es ≡ length gs → ((j : ℕ) → j < i → get_or es j 0 ≡ get_or es i 0 → ⊥) → group_of es gs (get_or es i 0) ≡ get_or gs i 0
unfolding group_of
group_is [] gs i l q h = absurd (not-suc-le-zero l)
group_is (e ∷ es) [] i l q h = absurd (omega arith)
group_is (e ∷ es) (g ∷ gs) zero l q h = rw (eq-eqb e e refl)
group_is (e ∷ es) (g ∷ gs) (suc i) l q h = rw (ne_eqb e (get_or es i 0) (h 0 (suc-le-suc zero-le))) (group_is es gs i (le_of_suc-le-suc l) (omega arith) (λ j x. h (suc j) (suc-le-suc x)))

-- ---- the corners after the split

-- v or a copy
abbrev pub Turned : ℕ → ℕ → ℕ → Type 0
Turned v before u = (u ≡ v) ⊎ (before ≤ u)

-- what stands for v is v or a copy
pub copy_turned : (v before g : ℕ) → Turned v before (copy_for_of v before g)
copy_turned v before g = by (ℕ_discrete g 0)
  where
    by : Dec (g ≡ 0) → Turned v before (copy_for_of v before g)
    by (yes q) = inl (rw (eq-eqb g 0 q))
    by (no q) = inr (rw (ne_eqb g 0 q) (omega (arith, q)))

-- at the head of the loop, where t₁ has no head of v: the cells from number j of the fan on are linked anew
pub record Moving (v before k n P R : ℕ) (numbers groups : List ℕ) (corner : ℕ → ℕ → ℕ) (t₁ t : List ℕ) (j : ℕ) : Type 0 where
  pub below : j ≤ length numbers
  pub long : length t ≡ length t₁
  pub turned : (u : ℕ) → u < P → Turned v before u → (a : ℕ) → a ≤ n → ((i : ℕ) → i < j → get_or numbers i 0 < a) → ((i : ℕ) → j ≤ i → i < length numbers → a ≤ get_or numbers i 0)
      → get_or t u 0 ≡ lowest (holds k (corner_after v before numbers groups corner) u) a (n - a)
  pub same : (u : ℕ) → u < P → (Turned v before u → ⊥) → get_or t u 0 ≡ get_or t₁ u 0
  pub links : (i c : ℕ) → j ≤ i → i < length numbers → c < k → corner c (get_or numbers i 0) ≡ v
      → get_or t (P + (c * R + get_or numbers i 0)) 0 ≡ next_of k n (corner_after v before numbers groups corner) (copy_for_of v before (group_of numbers groups (get_or numbers i 0))) (get_or numbers i 0)
  pub others : (c i : ℕ) → c < k → i < R → (i < n → corner c i ≡ v → ⊥) → get_or t (P + (c * R + i)) 0 ≡ get_or t₁ (P + (c * R + i)) 0

module _ (v before k n : ℕ) (numbers groups : List ℕ) (corner : ℕ → ℕ → ℕ) (low : v < before) (A : CornersApart before k n corner) where
  -- what stands for v in cell i
  abbrev pub copy_in : ℕ → ℕ
  copy_in i = copy_for_of v before (group_of numbers groups i)

  abbrev after : ℕ → ℕ → ℕ
  after = corner_after v before numbers groups corner

  -- at v its copy, elsewhere what stood there
  after_at : (c i : ℕ) → corner c i ≡ v → after c i ≡ copy_in i
  unfolding corner_after
  after_at c i e = rw (eq-eqb (corner c i) v e)

  after_else : (c i : ℕ) → (corner c i ≡ v → ⊥) → after c i ≡ corner c i
  unfolding corner_after
  after_else c i ne = rw (ne_eqb (corner c i) v ne)

  -- any other particle is held by the same cells
  held_same : (u : ℕ) → (Turned v before u → ⊥) → (i : ℕ) → holds k corner u i ≡ holds k after u i
  held_same u t i = bool_both _ _ (λ e. let g = holds_get k corner i u e in fore g.0 g.1.0 g.1.1) (λ e. let g = holds_get k after i u e in back g.0 g.1.0 g.1.1 (ℕ_discrete (corner g.0 i) v))
    where
      fore : (c : ℕ) → c < k → corner c i ≡ u → holds k after u i ≡ true
      fore c h e = holds_made k after c i u h (after_else c i (λ q. t (inl (sym e ∙ q))) ∙ e)

      back : (c : ℕ) → c < k → after c i ≡ u → Dec (corner c i ≡ v) → holds k corner u i ≡ true
      back c h e (yes q) = absurd (t (subst (Turned v before) (sym (after_at c i q) ∙ e) (copy_turned v before (group_of numbers groups i))))
      back c h e (no q) = holds_made k corner c i u h (sym (after_else c i q) ∙ e)

  -- v or a copy is held by a cell of the fan, whose copy it is
  held_turned : (u : ℕ) → Turned v before u → (i : ℕ) → i < n → holds k after u i ≡ true → (holds k corner v i ≡ true) × (copy_in i ≡ u)
  held_turned u t i l e = let g = holds_get k after i u e in by g.0 g.1.0 g.1.1 (ℕ_discrete (corner g.0 i) v)
    where
      by : (c : ℕ) → c < k → after c i ≡ u → Dec (corner c i ≡ v) → (holds k corner v i ≡ true) × (copy_in i ≡ u)
      by c h q (yes r) = (holds_made k corner c i v h r, sym (after_at c i r) ∙ q)
      by c h q (no r) =
          let s : corner c i ≡ u = sym (after_else c i r) ∙ q in
          let b = A.below c i h l in
          absurd (⊎_elim (λ y. r (s ∙ y)) (λ y. omega arith) t)

  -- a fan's cell holds its copy
  held_copy : (c i : ℕ) → c < k → corner c i ≡ v → holds k after (copy_in i) i ≡ true
  held_copy c i h e = holds_made k after c i (copy_in i) h (after_at c i e)

  module _ (P R : ℕ) (t₀ : List ℕ) (F : FanIs (holds k corner v) 0 n numbers) (paired : length numbers ≡ length groups) (cells : n ≤ R) (room : P + k * R ≤ length t₀)
      (most : before ≤ P) (copies : (i : ℕ) → i < length numbers → copy_for_of v before (get_or groups i 0) < P) (L : LinksOf P k R n corner t₀) where
    abbrev Mov : List ℕ → ℕ → Type 0
    Mov t j = Moving v before k n P R numbers groups corner (set t₀ v 0) t j

    -- the copy of a fan's cell, by its place
    copy_is : (i : ℕ) → i < length numbers → copy_in (get_or numbers i 0) ≡ copy_for_of v before (get_or groups i 0)
    copy_is i h = ap (copy_for_of v before) (group_is numbers groups i h paired (λ j l e. let r = F.rising j i l h in omega arith))

    -- the head of v is empty
    pub moving_start : Mov (set t₀ v 0) (length numbers)
    unfolding first_of
    moving_start =
        record {
          below = omega arith;
          long = refl;
          turned = λ u h t a la x y. empty u h t (ℕ_discrete u v) ∙ sym (low_none (holds k after u) a (n - a) (λ i p q. not_true _ (λ e. gone u t i a p (omega arith) x e)));
          same = λ u h t. refl;
          links = λ i c x y. absurd (omega arith);
          others = λ c i x y ne. refl;
        }
      where
        empty : (u : ℕ) → u < P → Turned v before u → Dec (u ≡ v) → get_or (set t₀ v 0) u 0 ≡ 0
        empty u h t (yes q) = rw q (get_or-set_same t₀ v 0 0 (omega arith))
        empty u h t (no q) =
            get_or-set_other t₀ v u 0 0 q ∙ L.heads u h
            ∙ low_none (holds k corner u) 0 n (λ i x y. holds_none k corner i u (λ c l e. let b = A.below c i l (omega arith) in ⊎_elim (λ z. q z) (λ z. omega arith) t))

        gone : (u : ℕ) → Turned v before u → (i a : ℕ) → a ≤ i → i < n → ((j : ℕ) → j < length numbers → get_or numbers j 0 < a) → holds k after u i ≡ true → ⊥
        gone u t i a x y z e =
            let g = F.every i zero-le y (held_turned u t i y e).0 in
            let l = z g.0 g.1.0 in
            omega (arith, g.1.1)

    -- one cell more
    module _ (t : List ℕ) (j : ℕ) (M : Mov t (suc j)) (r : ℕ) (Q : ColumnOf k v (get_or numbers j 0) corner r) where
      abbrev e : ℕ
      e = get_or numbers j 0

      abbrev w : ℕ
      w = copy_for_of v before (get_or groups j 0)

      in_fan : j < length numbers
      in_fan = omega (arith, M.below)

      e_within : e < n
      e_within = (F.within j in_fan).1

      w_below : w < P
      w_below = copies j in_fan

      pub moving_fits : P + (r * R + e) < length t
      moving_fits = omega (arith, col_fits r k R Q.among, M.long, length-set t₀ v 0, e_within)

      w_is : copy_in e ≡ w
      w_is = copy_is j in_fan

      -- what stood first at the copy is the next cell behind
      w_was : get_or t w 0 ≡ next_of k n after w e
      unfolding next_of
      w_was = M.turned w w_below (copy_turned v before (get_or groups j 0)) (suc e) e_within (λ i l. up i l (ℕ_discrete i j)) (λ i l m. F.rising j i l m)
        where
          up : (i : ℕ) → i < suc j → Dec (i ≡ j) → get_or numbers i 0 < suc e
          up i l (yes q) = rw q (omega arith)
          up i l (no q) = let s = F.rising i j (omega (arith, q)) in_fan in omega arith

      -- a place among the links is no head
      behind : (c i x : ℕ) → get_or (set (set t (P + (r * R + e)) (get_or t w 0)) w x) (P + (c * R + i)) 0 ≡ get_or (set t (P + (r * R + e)) (get_or t w 0)) (P + (c * R + i)) 0
      behind c i x = get_or-set_other (set t (P + (r * R + e)) (get_or t w 0)) w (P + (c * R + i)) x 0 (λ q. omega (arith, w_below))

      -- another link is as it was
      left : (c i : ℕ) → i < R → ((i ≡ e) × (c ≡ r) → ⊥) → get_or (set (set t (P + (r * R + e)) (get_or t w 0)) w (suc e)) (P + (c * R + i)) 0 ≡ get_or t (P + (c * R + i)) 0
      left c i h ne = behind c i (suc e) ∙ get_or-set_other t (P + (r * R + e)) (P + (c * R + i)) (get_or t w 0) 0 (λ q. by (omega arith) (ℕ_discrete i e))
        where
          by : c * R + i ≡ r * R + e → Dec (i ≡ e) → ⊥
          by q (yes s) = let b = e_within in apart_col c r R i e h (omega arith) (λ z. ne (s, z)) q
          by q (no s) = let b = e_within in apart c r R i e h (omega arith) s q

      -- another head is as it was
      head_left : (u : ℕ) → u < P → (u ≡ w → ⊥) → get_or (set (set t (P + (r * R + e)) (get_or t w 0)) w (suc e)) u 0 ≡ get_or t u 0
      head_left u h ne = get_or-set_other (set t (P + (r * R + e)) (get_or t w 0)) w u (suc e) 0 ne ∙ get_or-set_other t (P + (r * R + e)) u (get_or t w 0) 0 (λ q. omega arith)

      pub moving_more : Mov (set (set t (P + (r * R + e)) (get_or t w 0)) w (suc e)) j
      unfolding next_of
      moving_more =
          record {
            below = omega (arith, in_fan);
            long = length-set (set t (P + (r * R + e)) (get_or t w 0)) w (suc e) ∙ length-set t (P + (r * R + e)) (get_or t w 0) ∙ M.long;
            turned = λ u h tu a la x y. head u h tu a la x y (ℕ_discrete u w);
            same = λ u h tu. head_left u h (λ q. tu (subst (Turned v before) (sym q) (copy_turned v before (get_or groups j 0)))) ∙ M.same u h tu;
            links = λ i c x y hc ec. link i c x y hc ec (ℕ_discrete i j);
            others = λ c i hc hi ne. left c i hi (λ q. ne (let b = e_within in omega (arith, q.0)) (ap (λ (z : ℕ). corner c z) q.0 ∙ ap (λ (z : ℕ). corner z e) q.1 ∙ Q.is)) ∙ M.others c i hc hi ne;
          }
        where
          -- no cell of the fan stands between
          skip : (u a : ℕ) → Turned v before u → ((i : ℕ) → i < j → get_or numbers i 0 < a) → (i : ℕ) → a ≤ i → i < e → holds k after u i ≡ false
          skip u a tu x i p q =
              not_true _
              (λ s.
              let b = e_within in
              let g = F.every i zero-le (omega arith) (held_turned u tu i (omega arith) s).0 in
              let y : g.0 < j → ⊥ = λ z. let o = x g.0 z in omega (arith, g.1.1) in
              let z : j < g.0 → ⊥ = λ z. let o = F.rising j g.0 z g.1.0 in omega (arith, g.1.1) in
              let o : g.0 ≡ j → ⊥ = λ z. let o : get_or numbers g.0 0 ≡ e = ap (λ (m : ℕ). get_or numbers m 0) z in omega (arith, g.1.1) in
              omega (arith, y, z, o))

          head : (u : ℕ) → u < P → Turned v before u → (a : ℕ) → a ≤ n → ((i : ℕ) → i < j → get_or numbers i 0 < a) → ((i : ℕ) → j ≤ i → i < length numbers → a ≤ get_or numbers i 0) → Dec (u ≡ w)
              → get_or (set (set t (P + (r * R + e)) (get_or t w 0)) w (suc e)) u 0 ≡ lowest (holds k after u) a (n - a)
          head u h tu a la x y d =
              let ae : a ≤ e = y j (omega arith) in_fan in
              let b = e_within in
              by d ∙ sym (low_step (holds k after u) e n b) ∙ sym (low_skip (holds k after u) a e n ae (omega arith) (skip u a tu x))
            where
              by : Dec (u ≡ w) → get_or (set (set t (P + (r * R + e)) (get_or t w 0)) w (suc e)) u 0 ≡ pick (holds k after u e) (suc e) (lowest (holds k after u) (suc e) (n - suc e))
              by (yes q) =
                  rw (q, ap (λ (z : ℕ). holds k after z e) (sym w_is) ∙ held_copy r e Q.among Q.is)
                  (get_or-set_same (set t (P + (r * R + e)) (get_or t w 0)) w (suc e) 0 (rw (length-set t (P + (r * R + e)) (get_or t w 0)) (omega (arith, M.long, length-set t₀ v 0, w_below))))
              by (no q) =
                  let f : holds k after u e ≡ false = not_true _ (λ s. q (sym (held_turned u tu e e_within s).1 ∙ w_is)) in
                  rw f (head_left u h q ∙ M.turned u h tu (suc e) e_within (λ i l. up i l (ℕ_discrete i j)) (λ i l m. F.rising j i l m))
                where
                  up : (i : ℕ) → i < suc j → Dec (i ≡ j) → get_or numbers i 0 < suc e
                  up i l (yes z) = rw z (omega arith)
                  up i l (no z) = let s = F.rising i j (omega (arith, z)) in_fan in omega arith

          link : (i c : ℕ) → j ≤ i → i < length numbers → c < k → corner c (get_or numbers i 0) ≡ v → Dec (i ≡ j)
              → get_or (set (set t (P + (r * R + e)) (get_or t w 0)) w (suc e)) (P + (c * R + get_or numbers i 0)) 0 ≡ lowest (holds k after (copy_in (get_or numbers i 0))) (suc (get_or numbers i 0)) (n - suc (get_or numbers i 0))
          link i c x y hc ec (yes q) = rw (q, w_is) (at_place (one (ℕ_discrete c r)))
            where
              one : Dec (c ≡ r) → c ≡ r
              one (yes s) = s
              one (no s) =
                  let ec' : corner c e ≡ v = ap (λ (z : ℕ). corner c (get_or numbers z 0)) (sym q) ∙ ec in
                  let lo : c < r → ⊥ = λ z. A.apart c r e z Q.among e_within (ec' ∙ sym Q.is) in
                  let hi : r < c → ⊥ = λ z. A.apart r c e z hc e_within (Q.is ∙ sym ec') in
                  absurd (omega (arith, s, lo, hi))

              at_place : c ≡ r → get_or (set (set t (P + (r * R + e)) (get_or t w 0)) w (suc e)) (P + (c * R + e)) 0 ≡ lowest (holds k after w) (suc e) (n - suc e)
              at_place s =
                  behind c e (suc e)
                  ∙ ap (λ (z : ℕ). get_or (set t (P + (r * R + e)) (get_or t w 0)) (P + (z * R + e)) 0) s
                  ∙ get_or-set_same t (P + (r * R + e)) (get_or t w 0) 0 moving_fits
                  ∙ w_was
          link i c x y hc ec (no q) =
              let s = F.rising j i (omega (arith, q)) y in
              let b = F.within i y in
              left c (get_or numbers i 0) (omega (arith, b.1)) (λ z. omega (arith, z.0)) ∙ M.links i c (omega (arith, q)) y hc ec

    -- after the first cell of the fan the table is that of the corners after the split
    pub moving_done : (t : List ℕ) → Mov t 0 → LinksOf P k R n after t
    unfolding first_of next_of
    moving_done t M = record { heads = λ u h. head u h (ℕ_discrete u v) (dec_lt u before); links = λ c i hc hi. link c i hc hi (dec_lt i n) (ℕ_discrete (corner c i) v) }
      where
        was : (c i : ℕ) → get_or (set t₀ v 0) (P + (c * R + i)) 0 ≡ get_or t₀ (P + (c * R + i)) 0
        was c i = get_or-set_other t₀ v (P + (c * R + i)) 0 0 (λ e. omega arith)

        all : (u : ℕ) → u < P → Turned v before u → get_or t u 0 ≡ lowest (holds k after u) 0 n
        all u h tu = let z : n - 0 ≡ n = omega arith in M.turned u h tu 0 zero-le (λ i l. absurd (not-suc-le-zero l)) (λ i l m. zero-le) ∙ ap (lowest (holds k after u) 0) z

        head : (u : ℕ) → u < P → Dec (u ≡ v) → Dec (u < before) → get_or t u 0 ≡ lowest (holds k after u) 0 n
        head u h (yes q) d = all u h (inl q)
        head u h (no q) (no d) = all u h (inr (omega (arith, d)))
        head u h (no q) (yes d) =
            let tu : Turned v before u → ⊥ = ⊎_elim (λ z. q z) (λ z. omega arith) in
            M.same u h tu ∙ get_or-set_other t₀ v u 0 0 q ∙ L.heads u h ∙ low_ext _ _ 0 n (λ i x y. held_same u tu i)

        link : (c i : ℕ) → c < k → i < R → Dec (i < n) → Dec (corner c i ≡ v) → get_or t (P + (c * R + i)) 0 ≡ lowest (holds k after (after c i)) (suc i) (n - suc i)
        link c i hc hi (no d) q = M.others c i hc hi (λ z. absurd (d z)) ∙ was c i ∙ L.links c i hc hi ∙ low_end _ (suc i) (n - suc i) (omega (arith, d)) ∙ sym (low_end _ (suc i) (n - suc i) (omega (arith, d)))
        link c i hc hi (yes d) (yes q) =
            let g = F.every i zero-le d (holds_made k corner c i v hc q) in
            rw (after_at c i q)
            (subst (λ (z : ℕ). get_or t (P + (c * R + z)) 0 ≡ lowest (holds k after (copy_in z)) (suc z) (n - suc z)) g.1.1
            (M.links g.0 c zero-le g.1.0 hc (ap (corner c) g.1.1 ∙ q)))
        link c i hc hi (yes d) (no q) =
            let b = A.below c i hc d in
            let tu : Turned v before (corner c i) → ⊥ = ⊎_elim (λ z. q z) (λ z. omega arith) in
            rw (after_else c i q) (M.others c i hc hi (λ z. q) ∙ was c i ∙ L.links c i hc hi ∙ low_ext _ _ (suc i) (n - suc i) (λ m x y. held_same (corner c i) tu m))

-- ---- as the program has it

module _ (v before k n P R S : ℕ) (numbers groups s t₀ : List ℕ) (I : SplitRoom v before P k R S n numbers groups s t₀) where
  abbrev fan : FanIs (holds k (cell 0 S s) v) 0 n numbers
  fan = fan_is k n (cell 0 S s) v numbers I.fan

  pub split_start : Moving v before k n P R numbers groups (cell 0 S s) (set t₀ v 0) (set t₀ v 0) (length numbers)
  split_start = moving_start v before k n numbers groups (cell 0 S s) I.here I.apart P R t₀ fan I.paired I.room.cells I.room.table I.most I.copies I.linked

  module _ (t : List ℕ) (i : ℕ) (M : Moving v before k n P R numbers groups (cell 0 S s) (set t₀ v 0) t i) (h : 0 < i) where
    place : i - 1 < length numbers
    place = omega (arith, M.below)

    -- the table has its length still
    pub split_long : length t ≡ length t₀
    split_long = M.long ∙ length-set t₀ v 0

    -- the row of the cell holds v
    pub split_row : RowRead k S v (get_or numbers (i - 1) 0) s
    split_row = record { here = let w = fan.within (i - 1) place in omega (arith, w.1, I.room.rows); columns = I.room.columns; holding = fan.holding (i - 1) place }

    pub split_small : get_or numbers (i - 1) 0 < 65535
    split_small = let w = fan.within (i - 1) place in omega (arith, w.1, I.room.small)

    pub split_copy : copy_for_of v before (get_or groups (i - 1) 0) < P
    split_copy = I.copies (i - 1) place

    -- and is small
    pub split_copy_small : (0 < before) × (before + get_or groups (i - 1) 0 ≤ 65536)
    split_copy_small = (omega (arith, I.here), by (ℕ_discrete (get_or groups (i - 1) 0) 0))
      where
        by : Dec (get_or groups (i - 1) 0 ≡ 0) → before + get_or groups (i - 1) 0 ≤ 65536
        by (yes q) = omega (arith, I.most, I.few)
        by (no q) = let l : before + get_or groups (i - 1) 0 - 1 < P = rw (ne_eqb (get_or groups (i - 1) 0) 0 q) at split_copy in omega (arith, I.few, q)

    pub split_group : i - 1 < length groups
    split_group = omega (arith, place, I.paired)

    -- the copy has a head in the table
    pub split_head : copy_for_of v before (get_or groups (i - 1) 0) < length t
    split_head = omega (arith, split_copy, M.long, length-set t₀ v 0, I.room.table)

    module _ (r : ℕ) (Q : ColumnOf k v (get_or numbers (i - 1) 0) (cell 0 S s) r) where
      earlier : Moving v before k n P R numbers groups (cell 0 S s) (set t₀ v 0) t (suc (i - 1))
      earlier = let e : i ≡ suc (i - 1) = omega arith in subst (λ (j : ℕ). Moving v before k n P R numbers groups (cell 0 S s) (set t₀ v 0) t j) e M

      pub split_link : P + (r * R + get_or numbers (i - 1) 0) < length t
      split_link = moving_fits v before k n numbers groups (cell 0 S s) I.here I.apart P R t₀ fan I.paired I.room.cells I.room.table I.most I.copies I.linked t (i - 1) earlier r Q

      pub split_more : (w : ℕ) → w ≡ copy_for_of v before (get_or groups (i - 1) 0)
          → Moving v before k n P R numbers groups (cell 0 S s) (set t₀ v 0) (set (set t (P + (r * R + get_or numbers (i - 1) 0)) (get_or t w 0)) w (get_or numbers (i - 1) 0 + 1)) (i - 1)
      split_more w e =
          rw (e, add-one (get_or numbers (i - 1) 0))
          (moving_more v before k n numbers groups (cell 0 S s) I.here I.apart P R t₀ fan I.paired I.room.cells I.room.table I.most I.copies I.linked t (i - 1) earlier r Q)

  pub split_done : (t : List ℕ) (i : ℕ) → Moving v before k n P R numbers groups (cell 0 S s) (set t₀ v 0) t i → i ≡ 0 → LinksOf P k R n (corner_after v before numbers groups (cell 0 S s)) t
  split_done t i M e =
      moving_done v before k n numbers groups (cell 0 S s) I.here I.apart P R t₀ fan I.paired I.room.cells I.room.table I.most I.copies I.linked t
      (subst (λ (j : ℕ). Moving v before k n P R numbers groups (cell 0 S s) (set t₀ v 0) t j) e M)
