-- The masses that a split of triangles gives are in range: the weights of the groups are at least 0 and at most their total, which is below 2 ^ 64. Assumes nothing.
use mathlib.Core.Path.{◌≡◌, refl, ap, ◌∙◌}
use mathlib.Core.Bool.{Bool, true, false}
use mathlib.Core.List.{List, [], ◌∷◌, map}
use Prim.Native.Nat.{ℕ, zero, suc, ◌+◌, ◌*◌, ◌^◌, ◌≤◌, ◌<◌, suc-le-suc}
use native.Mathlib.Nat.{le_trans, le_of_eq, mul-one, mul-le-mul_right}
use native.Mathlib.Omega.{arith}
use lib.IntN.{pos}
use lib.Dec.{T, eqb, lit≤}
use lib.ListN.{length, get_or, length-map}
use lib.Pow.{pow_pos}
use lib.Ieee.{Float, nan, inf, fin, binary32, fits, lt, le}
use lib.Ieee.Fits.{div-fits}
use lib.Ieee.Bits.{is_true}
use lib.Ieee.Order.{le_of_values}
use Rattle.lists.specs.Lists.{pick, stands, sift, up_to}
use Rattle.lists.proofs.Sifts.{sift_length, up_to_length}
use Rattle.float.specs.Numbers.{over, zero32, count32, abs_of, share_of}
use Rattle.float.specs.Ranges.{number?, volume?, not_below0?}
use Rattle.float.proofs.Units.{units_of, abs_value, not_below}
use Rattle.float.proofs.Limits.{limit_finite}
use Rattle.float.proofs.Share.{share_in_range}
use Rattle.fan.specs.Fan.{Fan, size}
use Rattle.fan.specs.Groups.{Numbered, labels_of, number_one, number_side, numbered, groups_of, count_of}
use Rattle.model.specs.Mesh.{Triangle, Mesh}
use Rattle.model.specs.Elements.{Triangles, Element, sum, triangles_from, elements_of, fan_of, grid_of}
use Rattle.model.specs.Split.{Part, parts_of, Opening, opening_of, weight_of, total_of, mass_of}
use Rattle.model.specs.Trace.{All}
use Rattle.model_laws.proofs.Traced.{parts_all, Any, all_any}
use Rattle.model_laws.proofs.Laws.{pick_both, all_map, all_sift, all_below, tab_all}
use Rattle.lineage.proofs.Sums.{UpTo, NoMore, Totalled, totalled_up, limit_units, equal_in_range}

-- ---- how many groups

one_count : (p : List ℕ) (i : ℕ) (N : Numbered) → (number_one p i N).count ≤ N.count + 1
unfolding number_one
one_count p i N = pick_both (λ (Q : Numbered). Q.count ≤ N.count + 1) (eqb (get_or p i 0) i) _ _ (omega arith) (omega arith)

side_count : (sides p : List ℕ) (s m i : ℕ) (N : Numbered) → (number_side sides p s m i N).count ≤ N.count + m
unfolding number_side
side_count sides p s zero i N = omega arith
side_count sides p s (suc m) i N =
    let N' = pick {A = Numbered} (eqb (get_or sides i 0) s) (number_one p i N) N in
    let a : N'.count ≤ N.count + 1 = pick_both (λ (Q : Numbered). Q.count ≤ N.count + 1) (eqb (get_or sides i 0) s) (number_one p i N) N (one_count p i N) (omega arith) in
    let b = side_count sides p s m (suc i) N' in
    omega arith

count_most : (F : Fan) → count_of F ≤ size F + size F
unfolding count_of numbered
count_most F =
    let N0 : Numbered = record { groups = _; count = 0 } in
    let a = side_count F.sides (labels_of F) 0 (size F) 0 N0 in
    let b = side_count F.sides (labels_of F) 1 (size F) 0 (number_side F.sides (labels_of F) 0 (size F) 0 N0) in
    le_trans b (omega arith)

-- ---- measures

abs_fits : (x : Float) → T (fits binary32 x) → T (fits binary32 (abs_of x))
unfolding abs_of fits
abs_fits nan h = h
abs_fits (inf s) h = h
abs_fits (fin s zero e) h = h
abs_fits (fin s (suc m) e) h = h

-- a rest volume's size is at most 2 ^ 22
volume_amount : (x : Float) → T (fits binary32 x) → volume? x ≡ true → UpTo (2 ^ 171) (abs_of x)
unfolding volume?
volume_amount x fx ok =
    let U = units_of x fx (limit_finite x 1 (pos 22) ok) in
    let a = U.q * 2 ^ U.j in
    (record { fit = abs_fits x fx; a = a; value = abs_value x U.sign a (2 ^ 149) U.value }, limit_units x U.sign a 22 U.value ok)

-- a triangle's volume is stored and in range
abbrev pub VolumeOk : Triangle → Type 0
VolumeOk t = T (fits binary32 t.volume) × (volume? t.volume ≡ true)

from_amounts : (i : ℕ) (ts : List Triangle) → All VolumeOk ts → All (λ (e : Element). UpTo (2 ^ 171) e.measure) (triangles_from i ts)
unfolding triangles_from
from_amounts i [] h = tt
from_amounts i (t ∷ ts) h = (volume_amount t.volume h.0.0 h.0.1, from_amounts (suc i) ts h.1)

from_length : (i : ℕ) (ts : List Triangle) → length (triangles_from i ts) ≡ length ts
unfolding triangles_from
from_length i [] = refl
from_length i (t ∷ ts) = ap suc (from_length (suc i) ts)

parts_length : (es : List Element) (gs : List ℕ) → length (parts_of es gs) ≤ length es
unfolding parts_of
parts_length [] gs = omega arith
parts_length (e ∷ es) [] = omega arith
parts_length (e ∷ es) (g ∷ gs) = suc-le-suc (parts_length es gs)

-- ---- one split

module _ (M : Mesh) (few : length M.triangles ≤ 1024) (ok : All VolumeOk M.triangles) (v : ℕ) (sides : List ℕ) (every : length sides ≡ length (fan_of Triangles M v)) where
  O : Opening
  O = opening_of Triangles M v sides

  fan_few : length (fan_of Triangles M v) ≤ 1024
  unfolding fan_of elements_of
  fan_few = let a = sift_length (λ (e : Element). stands v e.corners) (triangles_from 0 M.triangles) in let b = from_length 0 M.triangles in omega arith

  parts_few : length O.fan ≤ 1024
  unfolding O opening_of
  parts_few = let a = parts_length (fan_of Triangles M v) (groups_of (grid_of Triangles v (fan_of Triangles M v) sides)) in let b = fan_few in omega arith

  count_few : O.count ≤ 2048
  unfolding O opening_of grid_of
  count_few = let a = count_most (grid_of Triangles v (fan_of Triangles M v) sides) in let b = fan_few in omega arith

  parts_amounts : All (λ (p : Part). UpTo (2 ^ 171) p.measure) O.fan
  unfolding O opening_of fan_of elements_of
  parts_amounts =
      parts_all (λ (e : Element). UpTo (2 ^ 171) e.measure) Any (λ (p : Part). UpTo (2 ^ 171) p.measure) (λ e g h u. h) (fan_of Triangles M v) (groups_of (grid_of Triangles v (fan_of Triangles M v) sides))
      (all_sift (λ (e : Element). UpTo (2 ^ 171) e.measure) (λ (e : Element). stands v e.corners) (triangles_from 0 M.triangles) (from_amounts 0 M.triangles ok)) (all_any (groups_of (grid_of Triangles v (fan_of Triangles M v) sides)))

  weight_amount : (g : ℕ) → UpTo (2 ^ 181) (weight_of O.fan g)
  unfolding weight_of sum
  weight_amount g =
      let mine = sift (λ (p : Part). eqb p.group g) O.fan in
      let l = map (λ (p : Part). p.measure) mine in
      let n : length l ≤ 1024 = let a = length-map mine (λ (p : Part). p.measure) in let b = sift_length (λ (p : Part). eqb p.group g) O.fan in let c = parts_few in omega arith in
      let W = totalled_up 171 (lit≤ tt) l (all_map (λ (p : Part). UpTo (2 ^ 171) p.measure) (UpTo (2 ^ 171)) (λ (p : Part). p.measure) (λ p h. h) mine (all_sift (λ (p : Part). UpTo (2 ^ 171) p.measure) (λ (p : Part). eqb p.group g) O.fan parts_amounts)) (omega arith) in
      (W.amount, le_trans W.top (le_trans (mul-le-mul_right (2 ^ 171) n) (lit≤ tt)))

  total_of_lem : Totalled zero32 (map (weight_of O.fan) (up_to O.count)) 0 (length (map (weight_of O.fan) (up_to O.count)) * 2 ^ 181)
  unfolding up_to
  total_of_lem =
      let l = map (weight_of O.fan) (up_to O.count) in
      let n : length l ≡ O.count = length-map (up_to O.count) (weight_of O.fan) ∙ up_to_length O.count in
      let c = count_few in
      totalled_up 181 (lit≤ tt) l (all_below (UpTo (2 ^ 181)) (weight_of O.fan) O.count (λ k. k) (λ i u. weight_amount i)) (omega arith)

  -- the weight of a group is at most the total
  weight_most : (g : ℕ) → g < O.count → (weight_amount g).0.a ≤ total_of_lem.amount.a
  unfolding up_to
  weight_most g l =
      tab_all (NoMore total_of_lem.amount.a) (weight_of O.fan) O.count (λ k. k) total_of_lem.each g l (weight_amount g).0.a (weight_amount g).0.value

  total_most : total_of_lem.amount.a ≤ 2 ^ 64 * 2 ^ 149
  total_most =
      let l = map (weight_of O.fan) (up_to O.count) in
      let n : length l ≡ O.count = length-map (up_to O.count) (weight_of O.fan) ∙ up_to_length O.count in
      let c = count_few in
      let m : length l ≤ 2048 = omega arith in
      le_trans total_of_lem.top (le_trans (mul-le-mul_right (2 ^ 181) m) (lit≤ tt))

  share_ok : (m : Float) → T (fits binary32 m) → number? m ≡ true → (g : ℕ) → g < O.count → lt zero32 (total_of O) ≡ true → number? (share_of m (weight_of O.fan g) (total_of O)) ≡ true
  unfolding total_of sum not_below0?
  share_ok m fm nm g l p =
      let w = weight_of O.fan g in
      let W = (weight_amount g).0 in
      let A = total_of_lem.amount in
      let D = 2 ^ 149 in
      (share_in_range m w (total_of O) fm W.fit A.fit nm (not_below w false W.a D (pow_pos 149) W.value)
      (is_true (le w (total_of O)) (le_of_values w (total_of O) W.a D A.a D (pow_pos 149) (pow_pos 149) W.value A.value (mul-le-mul_right D (weight_most g l)))) p
      (is_true (le (total_of O) (fin false 1 (pos 64))) (le_of_values (total_of O) (fin false 1 (pos 64)) A.a D (2 ^ 64) 1 (pow_pos 149) (lit≤ tt) A.value (refl, refl) (le_trans (le_of_eq (mul-one A.a)) total_most)))).0

  -- the mass of group g
  pub mass_ok : (m : Float) → T (fits binary32 m) → number? m ≡ true → (g : ℕ) → g < (opening_of Triangles M v sides).count
      → (number? (mass_of (opening_of Triangles M v sides) m g) ≡ true) × T (fits binary32 (mass_of (opening_of Triangles M v sides) m g))
  unfolding mass_of O
  mass_ok m fm nm g l = by (lt zero32 (total_of O)) refl
    where
      by : (b : Bool) → lt zero32 (total_of O) ≡ b
          → (number? (pick b (share_of m (weight_of O.fan g) (total_of O)) (over m (count32 O.count))) ≡ true) × T (fits binary32 (pick b (share_of m (weight_of O.fan g) (total_of O)) (over m (count32 O.count))))
      by true e = (share_ok m fm nm g l e, div-fits binary32 _ _)
      by false e = (equal_in_range m O.count fm nm (omega arith) (let c = count_few in omega arith), div-fits binary32 _ _)
