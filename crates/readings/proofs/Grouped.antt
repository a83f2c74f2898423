-- The groups of a fan in tables are those of the definitions, and so is what they reach.
use Prim.Native.Nat.{ℕ, zero, suc, ◌+◌, ◌*◌, ◌/◌, ◌<◌, ◌≤◌}
use native.Mathlib.Omega.{arith}
use native.Mathlib.Nat.{mul-le-mul_right}
use mathlib.Core.Path.{◌≡◌, refl, sym, ◌∙◌, ap, ap₂, subst}
use mathlib.Core.Bool.{Bool, true, false, not, ◌&&◌}
use mathlib.Core.List.{List, [], ◌++◌}
use lib.Dec.{eqb, leb, ltb}
use lib.ListN.{length, get_or, take, drop, set, length-set, length-replicate}
use lib.Seq.{length-take-le, length_front, take_at}
use borrow.Author.Tests.{ltb-true, eqb-true}
use Rattle.lists.specs.Lists.{pick, stands, all, each, padded}
use Rattle.lists.proofs.Sifts.{and_true, all_get, sift_length}
use Rattle.fan.specs.Fan.{Fan, fan, size}
use Rattle.fan.specs.Groups.{Numbered, number_one, number_side, numbered, groups_of, count_of, labels_of}
use Rattle.fan.specs.Calls.{Fits, Counted as GroupsCounted}
use Rattle.model.specs.Mesh.{Mesh}
use Rattle.model.specs.Valid.{numbers_fit_of, indices_fit_of}
use Rattle.model.specs.Elements.{Element, kind_of, elements_of, fan_of, grid_of, corners_per_of}
use Rattle.model.specs.Pieces.{opens_without_confetti_of}
use Rattle.model.specs.Split.{opening_of}
use Rattle.model.specs.Calls.{sides_ok, refusal}
use Rattle.model.specs.Reads.{Read, refused, value, or_refused, grouped, groups_call, opens_call}
use Rattle.mesh.specs.Given.{Given, mesh_of, sizes_fit_of}
use Rattle.mesh.specs.Widths.{point_columns}
use Rattle.std.specs.Prelude.{Ok, Err}
use Rattle.mesh.specs.Refused.{number_of}
use Rattle.mesh.specs.declared.refusals.Refusal.{Refusal}
use Rattle.mesh.proofs.Refused.{refused_some}
use Rattle.judge.specs.Checks.{fault_of}
use Rattle.elements.proofs.Found.{fan_of_lem}
use Rattle.reach.specs.Opens.{Opens}
use Rattle.reach.proofs.Opening.{lent_by, opens_opening}
use Rattle.mesh_tables.specs.Accepted.{FanFound}
use Rattle.mesh_tables.specs.Fans.{FanOf}
use Rattle.mesh_tables.proofs.Accepted.{Few}
use Rattle.mesh_tables.proofs.FanRead.{found_fan}
use Rattle.readings.specs.Fans.{FanAsked, GroupsFilled, WalkAsked, WalksIn, Roomy}
use Rattle.readings.specs.Answers.{placed_in, group_count, groups_shown, GroupsAnswered}
use Rattle.arguments.proofs.Judged.{decided}
use Rattle.mesh_tables.proofs.Checked.{sides_ok_lem}
use Rattle.readings.proofs.Refusing.{refuse_by, value_by}

-- ---- a fan that was read

-- the fan in its table is the definition's
pub grid_is : {G : Given} {v k others count : ℕ} {verts : List ℕ} (F : FanOf G v k others count verts) (sides : List ℕ) → count * k ≤ length verts
    → fan (take (count * k) verts) k v others sides ≡ grid_of (kind_of (mesh_of G)) v (fan_of (kind_of (mesh_of G)) (mesh_of G) v) sides
unfolding grid_of
grid_is {G} {v} {k} {others} F sides room =
    ap (λ (l : List ℕ). fan l k v others sides) (F.cornered room).corners_are
    ∙ ap (λ (m : ℕ). fan (each (λ (e : Element). e.corners) (fan_of (kind_of (mesh_of G)) (mesh_of G) v)) m v others sides) F.per
    ∙ ap (λ (m : ℕ). fan (each (λ (e : Element). e.corners) (fan_of (kind_of (mesh_of G)) (mesh_of G) v)) (corners_per_of (kind_of (mesh_of G))) v m sides) F.others_are

module _ (v p count : ℕ) (sides : List ℕ) (t : Bool) (e : t ≡ (ltb v p && all (λ s. ltb s 2) sides && eqb (length sides) count)) (said : t ≡ true) where
  -- there is a side for each element
  pub one_each : length sides ≡ count
  one_each = eqb-true (length sides) count (and_true (ltb v p && all (λ s. ltb s 2) sides) (eqb (length sides) count) (sym e ∙ said)).1

  two_sides : (i : ℕ) → i < length sides → get_or sides i 0 < 2
  two_sides i h =
      let a = (and_true (ltb v p && all (λ s. ltb s 2) sides) (eqb (length sides) count) (sym e ∙ said)).0 in
      ltb-true _ _ (all_get (λ s. ltb s 2) sides i 0 (and_true (ltb v p) (all (λ s. ltb s 2) sides) a).1 h)

  -- so the fan's table can be grouped
  pub fan_asked : (k : ℕ) (verts : List ℕ) → count ≤ 2048 → count * k ≤ length verts → FanAsked (take (count * k) verts) k sides
  fan_asked k verts few room =
      record { few = omega (arith, one_each); whole = length-take-le (count * k) verts room ∙ ap (λ (m : ℕ). m * k) (sym one_each); two = two_sides }

  -- and a table that is roomy has room for it
  pub roomy_fan : (k lent : ℕ) → Roomy (length sides) lent → Few count k → count * k ≤ lent
  roomy_fan k lent R W = subst (λ (m : ℕ). m * k ≤ lent) one_each (R k W.width.1 (subst (λ (m : ℕ). m * k ≤ 4096) (sym one_each) W.narrow))

  -- the groups of a fan that was found are walked from
  pub walk_asked : {G : Given} {n k others : ℕ} {verts fan_verts : List ℕ} → FanFound G v n k others count verts fan_verts → (places : ℕ) → n ≤ places
      → WalkAsked n k v verts (length sides) places places
  walk_asked {G} F places h =
      record {
        asked = λ groups l.
            lent_by {v = v} {groups = groups} F.cornered (record { some = F.corners.width.0; whole = F.corners.room }) h h
            (l ∙ one_each ∙ F.fan_cornered.count ∙ ap length (fan_of_lem (kind_of (mesh_of G)) (mesh_of G) v));
      }

-- a fan that was found has no more elements than the mesh
found_within : {G : Given} {v n k others count : ℕ} {verts fan_verts : List ℕ} → FanFound G v n k others count verts fan_verts → count ≤ n
found_within {G} {v} F =
    let es : List Element = elements_of (kind_of (mesh_of G)) (mesh_of G) in
    let l = ap length (fan_of_lem (kind_of (mesh_of G)) (mesh_of G) v) in
    let w = sift_length (λ (e : Element). stands v e.corners) es in
    omega (arith, F.fan_cornered.count, F.cornered.count, l, w)

-- the same of a fan that was found
pub found_asked : {G : Given} {v n k others count : ℕ} {verts fan_verts : List ℕ} (F : FanFound G v n k others count verts fan_verts) (sides : List ℕ) (t : Bool)
    → t ≡ (ltb v (length G.points / point_columns) && all (λ s. ltb s 2) sides && eqb (length sides) count) → t ≡ true
    → FanAsked (take (count * k) fan_verts) k sides × WalksIn n k v verts (length sides)
found_asked {G} {v} {k = k} {count = count} {fan_verts = fan_verts} F sides t e said =
    let p : ℕ = length G.points / point_columns in
    let w = found_within F in
    (fan_asked v p count sides t e said k fan_verts F.fan_few F.fan_room, λ places h. (omega (arith, one_each v p count sides t e said), walk_asked v p count sides t e said F places h))

-- the test of the sides among p particles is the definition's
pub sides_by : {G : Given} {v k others count : ℕ} {verts : List ℕ} (F : FanOf G v k others count verts) (p : ℕ) (sides : List ℕ) (t : Bool) → length G.points / point_columns ≡ p
    → t ≡ (ltb v p && all (λ s. ltb s 2) sides && eqb (length sides) count) → t ≡ sides_ok (mesh_of G) v sides
sides_by {v = v} {count = count} F p sides t q e = sides_ok_lem F sides t (e ∙ ap (λ (m : ℕ). ltb v m && all (λ s. ltb s 2) sides && eqb (length sides) count) (sym q))

-- a small table for few sides
pub few_roomy : (sides : ℕ) → sides ≤ 16 → Roomy sides 48
few_roomy sides h k w n = let a : sides * k ≤ 16 * k = mul-le-mul_right k h in omega arith

-- ---- the front of a lent table

-- what is asked for a place for each element
pub fan_fits : {verts : List ℕ} {k : ℕ} {sides groups : List ℕ} → FanAsked verts k sides → length groups ≡ length sides → Fits verts k sides groups
fan_fits A e = record { few = A.few; whole = A.whole; places = e; two = A.two }

-- groups that came back stand at the front of the table they were lent from
front_is : (gs old : List ℕ) (size : ℕ) → length gs ≡ length (take size old) → size ≤ length old → take size (gs ++ drop size old) ≡ gs
front_is gs old size l h = take_at gs (drop size old) size (l ∙ length-take-le size old h)

-- and with 0 behind them they fill it
pub filled : {F : Fan} {n : ℕ} (gs old table : List ℕ) (size : ℕ) → length gs ≡ length (take size old) → size ≤ length old → GroupsCounted F gs n
    → table ≡ padded (length (gs ++ drop size old)) 0 (take size (gs ++ drop size old)) → GroupsFilled F (length old) table n
filled gs old table size l h C e =
    record {
      table_is = e ∙ ap₂ (λ (m : ℕ) (t : List ℕ). padded m 0 t) (length_front old gs size l) (front_is gs old size l h ∙ C.groups_are);
      count_is = C.count_is;
    }

-- as many as were lent are read again
pub front_long : (gs old : List ℕ) (size : ℕ) → length gs ≡ length (take size old) → size ≤ length old → length (take size (gs ++ drop size old)) ≡ size
front_long gs old size l h = ap length (front_is gs old size l h) ∙ l ∙ length-take-le size old h

-- the walk from them is the walk from the fan's groups
pub walked : {F : Fan} {n k v : ℕ} {verts : List ℕ} {count minimum : ℕ} {r : Bool} (gs old : List ℕ) (size : ℕ) → length gs ≡ length (take size old) → size ≤ length old → GroupsCounted F gs count
    → Opens n k v verts (take size (gs ++ drop size old)) count minimum r → Opens n k v verts (groups_of F) (count_of F) minimum r
walked {F} {n} {k} {v} {verts} {count} {minimum} {r} gs old size l h C O =
    subst (λ (m : ℕ). Opens n k v verts (groups_of F) m minimum r) C.count_is
    (subst (λ (t : List ℕ). Opens n k v verts t count minimum r) (front_is gs old size l h ∙ C.groups_are) O)

-- ---- a group for each side

pick_long : (b : Bool) (x y : Numbered) (m : ℕ) → length x.groups ≡ m → length y.groups ≡ m → length (pick b x y).groups ≡ m
pick_long true x y m h k = h
pick_long false x y m h k = k

one_long : (p : List ℕ) (i : ℕ) (N : Numbered) → length (number_one p i N).groups ≡ length N.groups
unfolding number_one
one_long p i N =
    pick_long (eqb (get_or p i 0) i) (record { groups = set N.groups i N.count; count = N.count + 1 })
    (record { groups = set N.groups i (get_or N.groups (get_or p i 0) 0); count = N.count }) _ (length-set N.groups i _) (length-set N.groups i _)

side_long : (sides p : List ℕ) (s m i : ℕ) (N : Numbered) → length (number_side sides p s m i N).groups ≡ length N.groups
unfolding number_side
side_long sides p s zero i N = refl
side_long sides p s (suc m) i N = side_long sides p s m (suc i) _ ∙ pick_long (eqb (get_or sides i 0) s) (number_one p i N) N _ (one_long p i N) refl

pub groups_long : (F : Fan) → length (groups_of F) ≡ length F.sides
unfolding groups_of numbered
groups_long F = side_long F.sides (labels_of F) 1 (size F) 0 _ ∙ side_long F.sides (labels_of F) 0 (size F) 0 _ ∙ length-replicate (size F) 0

-- ---- answers

-- the checks, with a test more for the lent table
placed_or : (lent : ℕ) (a b c s l : Bool) (gs : List ℕ × ℕ) → leb (length gs.0) lent ≡ l
    → placed_in lent (or_refused (pick a 1 (pick b 2 (pick c 3 (pick (not s) 4 0)))) gs) ≡ or_refused (pick a 1 (pick b 2 (pick c 3 (pick (not (s && l)) 4 0)))) gs
placed_or lent true b c s l gs e = refl
placed_or lent false true c s l gs e = refl
placed_or lent false false true s l gs e = refl
placed_or lent false false false false l gs e = refl
placed_or lent false false false true true gs e = ap (λ (t : Bool). pick t (value gs) (refused 4)) e
placed_or lent false false false true false gs e = ap (λ (t : Bool). pick t (value gs) (refused 4)) e

-- what a table of so many places is told of the groups' call
pub placed_is : (z : Bool) (M : Mesh) (v : ℕ) (sides : List ℕ) (lent : ℕ) → placed_in lent (groups_call z M v sides)
    ≡ or_refused (refusal z M true (sides_ok M v sides && leb (length sides) lent)) (grouped (grid_of (kind_of M) v (fan_of (kind_of M) M v) sides))
unfolding groups_call refusal grid_of
placed_is z M v sides lent =
    placed_or lent (not z) (not (numbers_fit_of M && true)) (not (indices_fit_of M)) (sides_ok M v sides) (leb (length sides) lent) _
    (ap (λ (n : ℕ). leb n lent) (groups_long (grid_of (kind_of M) v (fan_of (kind_of M) M v) sides)))

-- what a table of groups and its count answer, where the fan in its table is the definition's
pub groups_answered : (G : Given) (v : ℕ) (sides : List ℕ) (lent : ℕ) (t : Bool) (F : Fan) (table : List ℕ) (r : ℕ) → fault_of G ≡ 0 → t ≡ (sides_ok (mesh_of G) v sides && leb (length sides) lent) → t ≡ true
    → F ≡ grid_of (kind_of (mesh_of G)) v (fan_of (kind_of (mesh_of G)) (mesh_of G) v) sides → GroupsFilled F lent table r
    → GroupsAnswered (groups_call (sizes_fit_of G) (mesh_of G) v sides) lent (Ok r) table
groups_answered G v sides lent t F table r z e said same filled =
    let F' = grid_of (kind_of (mesh_of G)) v (fan_of (kind_of (mesh_of G)) (mesh_of G) v) sides in
    let o : placed_in lent (groups_call (sizes_fit_of G) (mesh_of G) v sides) ≡ value (grouped F')
    = placed_is (sizes_fit_of G) (mesh_of G) v sides lent ∙ value_by 0 _ (grouped F') (grouped F') (sym (decided G _ z ∙ ap (λ (b : Bool). pick b 0 4) (sym e ∙ said))) refl refl in
    record {
      answer = ap value (filled.count_is ∙ ap count_of same) ∙ sym (ap group_count o);
      table_is = filled.table_is ∙ ap (λ (f : Fan). padded lent 0 (groups_of f)) same ∙ sym (ap (λ (x : Read (List ℕ × ℕ)). padded lent 0 (groups_shown x)) o);
    }

-- a refusal: the table is zeroed
pub groups_refused : (G : Given) (v : ℕ) (sides : List ℕ) (lent : ℕ) (e : Refusal) (table : List ℕ) → number_of e ≡ refusal (sizes_fit_of G) (mesh_of G) true (sides_ok (mesh_of G) v sides && leb (length sides) lent)
    → table ≡ padded lent 0 [] → GroupsAnswered (groups_call (sizes_fit_of G) (mesh_of G) v sides) lent (Err e) table
groups_refused G v sides lent e table same zeroed =
    let F = grid_of (kind_of (mesh_of G)) v (fan_of (kind_of (mesh_of G)) (mesh_of G) v) sides in
    let o : placed_in lent (groups_call (sizes_fit_of G) (mesh_of G) v sides) ≡ refused (number_of e) = placed_is (sizes_fit_of G) (mesh_of G) v sides lent ∙ refuse_by (number_of e) _ (grouped F) same (refused_some e) in
    record { answer = sym (ap group_count o); table_is = zeroed ∙ sym (ap (λ (x : Read (List ℕ × ℕ)). padded lent 0 (groups_shown x)) o) }

-- bad arguments are refusal 4
pub four_of : (G : Given) (t u : Bool) → fault_of G ≡ 0 → t ≡ u → t ≡ false → 4 ≡ refusal (sizes_fit_of G) (mesh_of G) true u
four_of G t u z e denied = sym (decided G u z ∙ ap (λ (b : Bool). pick b 0 4) (sym e ∙ denied))

-- the answer of the walk
pub opens_answered : (G : Given) (v : ℕ) (sides : List ℕ) (minimum : ℕ) (t r : Bool) → fault_of G ≡ 0 → t ≡ sides_ok (mesh_of G) v sides → t ≡ true
    → r ≡ opens_without_confetti_of (kind_of (mesh_of G)) (mesh_of G) minimum (opening_of (kind_of (mesh_of G)) (mesh_of G) v sides) → value r ≡ opens_call (sizes_fit_of G) (mesh_of G) v sides minimum
unfolding opens_call
opens_answered G v sides minimum t r z e said q = sym (value_by 0 _ _ r (sym (decided G _ z ∙ ap (λ (b : Bool). pick b 0 4) (sym e ∙ said))) refl q)

pub opens_refused : (G : Given) (v : ℕ) (sides : List ℕ) (minimum code : ℕ) → code ≡ refusal (sizes_fit_of G) (mesh_of G) true (sides_ok (mesh_of G) v sides) → (code ≡ 0 → ⊥)
    → refused code ≡ opens_call (sizes_fit_of G) (mesh_of G) v sides minimum
unfolding opens_call
opens_refused G v sides minimum code e h =
    sym (refuse_by code _ (opens_without_confetti_of (kind_of (mesh_of G)) (mesh_of G) minimum (opening_of (kind_of (mesh_of G)) (mesh_of G) v sides)) e h)

-- what the walk over a found fan answers is the definition's
pub opens_found : {G : Given} {v n k others count : ℕ} {verts fan_verts : List ℕ} (F : FanFound G v n k others count verts fan_verts) (sides : List ℕ) (minimum : ℕ) (r : Bool)
    → Opens n k v verts (groups_of (fan (take (count * k) fan_verts) k v others sides)) (count_of (fan (take (count * k) fan_verts) k v others sides)) minimum r
    → r ≡ opens_without_confetti_of (kind_of (mesh_of G)) (mesh_of G) minimum (opening_of (kind_of (mesh_of G)) (mesh_of G) v sides)
opens_found {G} F sides minimum r R =
    opens_opening R (kind_of (mesh_of G)) (mesh_of G) (sym F.per) F.cornered sides (ap groups_of (grid_is (found_fan F) sides F.fan_room)) (ap count_of (grid_is (found_fan F) sides F.fan_room))
