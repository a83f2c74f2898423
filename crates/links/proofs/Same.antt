-- The table is one and no other: two tables of the same corners agree place by place, and corners that agree have the same table. Assumes nothing.
use Prim.Native.Nat.{ℕ, suc, ◌+◌, ◌*◌, ◌/◌, ◌%◌, ◌<◌, ◌-◌}
use native.Mathlib.Nat.{div-add-mod', mod-lt, div-lt_iff_lt-mul, mul-zero}
use native.Mathlib.Omega.{arith}
use native.Mathlib.Decide.{ℕ_discrete, dec_lt}
use mathlib.Core.Path.{◌≡◌, sym, ap, ◌∙◌, subst}
use mathlib.Core.List.{List}
use lib.ListN.{length, get_or}
use lib.Seq.{ext_get_or}
use Rattle.links.specs.Links.{lowest, holds, first_of, next_of, LinksOf}
use Rattle.links.proofs.Lowest.{low_end, low_ext, holds_ext}

-- ---- one table

module _ (P k R n : ℕ) (f : ℕ → ℕ → ℕ) (t t' : List ℕ) (L : LinksOf P k R n f t) (L' : LinksOf P k R n f t') where
  -- the same at every place
  pub links_agree : (j : ℕ) → j < P + k * R → get_or t j 0 ≡ get_or t' j 0
  links_agree j h = by (dec_lt j P) (ℕ_discrete R 0)
    where
      by : Dec (j < P) → Dec (R ≡ 0) → get_or t j 0 ≡ get_or t' j 0
      by (yes l) d = L.heads j l ∙ sym (L'.heads j l)
      by (no l) (yes d) = let z : k * R ≡ 0 = ap (λ (x : ℕ). k * x) d ∙ mul-zero k in absurd (omega (arith, l))
      by (no l) (no d) =
          let some : 0 < R = omega (arith, d) in
          let e : (j - P) / R * R + (j - P) % R ≡ j - P = div-add-mod' (j - P) R in
          let q : P + ((j - P) / R * R + (j - P) % R) ≡ j = omega (arith, l) in
          let c : (j - P) / R < k = (div-lt_iff_lt-mul some).1 (omega (arith, l)) in
          let i : (j - P) % R < R = mod-lt (j - P) some in
          subst (λ (x : ℕ). get_or t x 0 ≡ get_or t' x 0) q (L.links _ _ c i ∙ sym (L'.links _ _ c i))

  -- so tables that have just these places are equal
  pub links_same : length t ≡ P + k * R → length t' ≡ P + k * R → t ≡ t'
  links_same e e' = ext_get_or 0 t t' (e ∙ sym e') (λ j h. links_agree j (omega (arith, e)))

-- corners that agree have the same table
pub links_ext : (P k R n : ℕ) (f g : ℕ → ℕ → ℕ) (t : List ℕ) → ((c i : ℕ) → c < k → i < n → f c i ≡ g c i) → LinksOf P k R n f t → LinksOf P k R n g t
unfolding first_of next_of
links_ext P k R n f g t h L =
    record {
      heads = λ v l. L.heads v l ∙ low_ext _ _ 0 n (λ i x y. holds_ext k f g v i (λ c m. h c i m (omega arith)));
      links = λ c i m l. L.links c i m l ∙ link c i m (dec_lt i n);
    }
  where
    link : (c i : ℕ) → c < k → Dec (i < n) → lowest (holds k f (f c i)) (suc i) (n - suc i) ≡ lowest (holds k g (g c i)) (suc i) (n - suc i)
    link c i m (no l) = low_end _ (suc i) (n - suc i) (omega (arith, l)) ∙ sym (low_end _ (suc i) (n - suc i) (omega (arith, l)))
    link c i m (yes l) =
        ap (λ (u : ℕ). lowest (holds k f u) (suc i) (n - suc i)) (h c i m l)
        ∙ low_ext _ _ (suc i) (n - suc i) (λ j x y. holds_ext k f g (g c i) j (λ b z. h b j z (omega arith)))
