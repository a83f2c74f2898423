-- Laws of the boundary in a split: the first part that holds an entry, the group that it follows, and the loop over the entries. Assumes nothing.
use Prim.Native.Nat.{ℕ, zero, suc, ◌+◌, ◌*◌, ◌-◌, ◌/◌, ◌≤◌, ◌<◌, zero-le, suc-le-suc}
use native.Mathlib.Nat.{le_of_suc-le-suc, not-suc-le-zero}
use native.Mathlib.Decide.{ℕ_discrete, dec_lt}
use native.Mathlib.Numerals.{add-one}
use native.Mathlib.Omega.{arith}
use mathlib.Core.Path.{◌≡◌, refl, sym, ap, ap₂, ◌∙◌, subst}
use mathlib.Core.Bool.{Bool, true, false, ◌&&◌}
use mathlib.Core.List.{List, [], ◌∷◌}
use mathlib.Core.Logic.{◌⊎◌, inl, inr, ⊎_elim}
use mathlib.Core.Option.{none, some}
use lib.ListN.{length, get_or, take, drop}
use lib.Dec.{eqb}
use lib.Ieee.{Float, nan, lt, neg}
use borrow.Author.Tests.{eq-eqb, ne_eqb}
use Rattle.lists.specs.Lists.{sift, head_or, pick, stands, all, find, fold, tab}
use Rattle.lists.proofs.Sifts.{pick_by, tab_ext, map_tab}
use Rattle.lists.proofs.Stores.{tab_length, tab_at}
use Rattle.float.specs.Numbers.{largest}
use Rattle.blade.specs.declared.Point.{Point}
use Rattle.columns.specs.Block.{cell, RowTurned}
use Rattle.columns.proofs.Cells.{col_0, col_1}
use Rattle.model.specs.Mesh.{Particle, Side, Mesh, blank}
use Rattle.model.specs.Elements.{rest_of, besides, side_ends}
use Rattle.model.specs.Split.{Part, Opening, copy_for_of, Best, better, score_of, scored, toward, side_group, turned, followed}
use Rattle.mesh.specs.At.{particles_at, side_row, boundary_at}
use Rattle.split_plan.specs.Opened.{part_at, blank_part, Ringed, RestsIn, CornersBelow, OpeningIn}
use Rattle.split_plan.specs.Answers.{TowardIs}
use Rattle.boundary.specs.Following.{SidesFollowed, row_holds, FirstHolder, InReach, SideRoom, SideGroupIs, CopiesSmall, SideCopyIs, EntryRoom, EntryFollowed, SidesRoom}
use Rattle.links.specs.Links.{holds}
use Rattle.links.specs.Rooms.{CellsListed, ListRoom}
use Rattle.links.specs.Linked.{SidesLinked}
use Rattle.links.proofs.Lowest.{holds_get, holds_ext}
use Rattle.links.proofs.Gaps.{Gap, stop_of, stop_first, stop_read, stop_end, stop_here}
use Rattle.link_changes.specs.Changes.{TurnRoom}
use Rattle.mesh.specs.Widths.{point_columns}

-- ---- the first that passes

module _ {A : Type 0} (p : A → Bool) (d : A) where
  -- it is found
  find_first : (l : List A) (i : ℕ) → i < length l → ((j : ℕ) → j < i → p (get_or l j d) ≡ false) → p (get_or l i d) ≡ true → find p l ≡ some (get_or l i d)
  unfolding find
  find_first [] i h e t = absurd (not-suc-le-zero h)
  find_first (a ∷ l) zero h e t = rw t
  find_first (a ∷ l) (suc i) h e t = rw (e 0 (suc-le-suc zero-le)) (find_first l i (le_of_suc-le-suc h) (λ j q. e (suc j) (suc-le-suc q)) t)

  -- none is
  find_nothing : (l : List A) → ((j : ℕ) → j < length l → p (get_or l j d) ≡ false) → find p l ≡ none
  unfolding find
  find_nothing [] e = refl
  find_nothing (a ∷ l) e = rw (e 0 (suc-le-suc zero-le)) (find_nothing l (λ j q. e (suc j) (suc-le-suc q)))

-- does a part hold both ends of (x, y)
abbrev holding : ℕ → ℕ → Part → Bool
holding x y p = all (λ z. stands z p.corners) (x ∷ y ∷ [])

-- the second of two tests
and_last : (s t : Bool) → s && (t && true) ≡ s && t
and_last true true = refl
and_last true false = refl
and_last false t = refl

-- of two corners, the one that isn't v
far_end : (v x y : ℕ) → head_or v (besides v (x ∷ y ∷ [])) ≡ pick (eqb x v) y x
unfolding besides sift
far_end v x y = by (ℕ_discrete x v) (ℕ_discrete y v)
  where
    by : Dec (x ≡ v) → Dec (y ≡ v) → head_or v (besides v (x ∷ y ∷ [])) ≡ pick (eqb x v) y x
    by (yes p) (yes q) = rw (eq-eqb x v p, eq-eqb y v q) (sym q)
    by (yes p) (no q) = rw (eq-eqb x v p, ne_eqb y v q)
    by (no p) _ = rw (ne_eqb x v p)

module _ {k n : ℕ} {verts groups : List ℕ} (O : Opening) (R : Ringed k O n verts groups) (x y : ℕ) where
  -- by its row
  holding_row : (i : ℕ) → i < n → holding x y (part_at O i) ≡ row_holds x y k verts i
  unfolding all
  holding_row i h =
      and_last (stands x (part_at O i).corners) (stands y (part_at O i).corners)
      ∙ ap (λ (l : List ℕ). stands x l && stands y l) (R.corners_are i h)

  -- the part that an entry follows
  follows_first : (i : ℕ) → FirstHolder x y n k verts i → i < n → find (holding x y) O.fan ≡ some (part_at O i)
  follows_first i F h =
      let s = R.size in
      find_first (holding x y) blank_part O.fan i (omega arith) (λ j l. holding_row j (omega arith) ∙ F.earlier j l) (holding_row i h ∙ F.here h)

  -- no part
  follows_none : (i : ℕ) → FirstHolder x y n k verts i → n ≤ i → find (holding x y) O.fan ≡ none
  follows_none i F h =
      let s = R.size in
      let w = F.within in
      find_nothing (holding x y) blank_part O.fan (λ j l. holding_row j (omega arith) ∙ F.earlier j (omega arith))

  -- its group
  pub side_held : (M : Mesh) (i : ℕ) → FirstHolder x y n k verts i → i < n → get_or groups i 0 ≡ side_group M O (record { corners = x ∷ y ∷ [] })
  unfolding side_group
  side_held M i F h = rw (follows_first i F h) (sym (R.group_is i h))

  -- the group that points to the other end
  pub side_far : (M : Mesh) (i z r : ℕ) → FirstHolder x y n k verts i → n ≤ i → pick (eqb x O.v) y x ≡ z → r ≡ toward M O z → r ≡ side_group M O (record { corners = x ∷ y ∷ [] })
  unfolding side_group
  side_far M i z r F h e q = rw (follows_none i F h, far_end O.v x y, e) q

-- ---- no group that is pointed to is larger than the groups

module _ (M : Mesh) (v bound : ℕ) (dir : Point) where
  -- after the corners of one part
  corners_small : (g : ℕ) → g ≤ bound → (l : List ℕ) (b : Best) → b.group ≤ bound → (fold (λ (c : Best) w. better c (score_of M v dir w) g) b l).group ≤ bound
  unfolding fold
  corners_small g h [] b e = e
  corners_small g h (w ∷ l) b e =
      corners_small g h l (better b (score_of M v dir w) g)
      (pick_by (λ (c : Best). c.group ≤ bound) (lt b.score (score_of M v dir w)) {x = record { score = score_of M v dir w; group = g }} {y = b} h e)

  -- after all parts
  parts_small : (ps : List Part) → ((i : ℕ) → i < length ps → (get_or ps i blank_part).group ≤ bound) → (b : Best) → b.group ≤ bound → (fold (scored M v dir) b ps).group ≤ bound
  unfolding fold scored
  parts_small [] h b e = e
  parts_small (p ∷ ps) h b e =
      parts_small ps (λ i l. h (suc i) (suc-le-suc l)) (scored M v dir b p) (corners_small p.group (h 0 (suc-le-suc zero-le)) (besides v p.corners) b e)

-- the group that points best
toward_small : (M : Mesh) (O : Opening) (x bound : ℕ) → ((i : ℕ) → i < length O.fan → (part_at O i).group ≤ bound) → toward M O x ≤ bound
unfolding toward
toward_small M O x bound h = parts_small M O.v bound _ O.fan h (record { score = neg largest; group = 0 }) zero-le

-- some opening has these tables
table_opening : ℕ → ℕ → ℕ → List ℕ → List ℕ → ℕ → Opening
table_opening v n k verts groups count =
    record { v = v; before = 0; fan = tab n (λ i. record { number = 0; corners = take k (drop (i * k) verts); measure = nan; group = get_or groups i 0 }); count = count }

-- it has them
table_ringed : (v n k : ℕ) (verts groups : List ℕ) (count : ℕ) → ((i : ℕ) → i < n → get_or groups i 0 < count) → Ringed k (table_opening v n k verts groups count) n verts groups
unfolding table_opening
table_ringed v n k verts groups count h =
    record {
      size = tab_length n _;
      corners_are = λ i l. ap (λ (p : Part). p.corners) (tab_at n _ i blank_part l);
      group_is = λ i l. ap (λ (p : Part). p.group) (tab_at n _ i blank_part l);
      below = h;
    }

-- some mesh rests as the block says
block_mesh : List Float → Mesh
block_mesh points = record { particles = particles_at (length points / point_columns) points []; triangles = []; edges = []; boundary = [] }

-- it does
block_rests : (points : List Float) → RestsIn (block_mesh points) (length points / point_columns) points
unfolding block_mesh rest_of particles_at
block_rests points w h = ap (λ (p : Particle). record { x = p.rest_x; y = p.rest_y }) (tab_at (length points / point_columns) _ w blank h)

-- what points best is no larger than the groups
toward_low :
    {x v n k : ℕ} {verts groups : List ℕ} {points : List Float} {r : ℕ} → TowardIs x v n k verts groups points r → x < length points / point_columns → v < length points / point_columns
    → CornersBelow (length points / point_columns) n k verts → (bound : ℕ) → ((i : ℕ) → i < n → get_or groups i 0 ≤ bound) → r ≤ bound
unfolding table_opening
toward_low {x} {v} {n} {k} {verts} {groups} {points} {r} T hx hv hc bound h =
    let O = table_opening v n k verts groups (suc bound) in
    let R : Ringed k O n verts groups = table_ringed v n k verts groups (suc bound) (λ i l. suc-le-suc (h i l)) in
    let e : r ≡ toward (block_mesh points) O x = T.is O (block_mesh points) (length points / point_columns) R refl (block_rests points) (omega arith) hx hv hc in
    let s = R.size in
    subst (λ (q : ℕ). q ≤ bound) (sym e)
    (toward_small (block_mesh points) O x bound (λ i l. let m : i < n = omega arith in subst (λ (q : ℕ). q ≤ bound) (sym (R.group_is i m)) (h i m)))

-- ---- the group that an entry follows

module _ {x y v n k : ℕ} {verts groups : List ℕ} {points : List Float} where
  -- of the first part that holds it
  pub side_here : {i : ℕ} → FirstHolder x y n k verts i → i < n → SideGroupIs x y v n k verts groups points (get_or groups i 0)
  side_here {i} F h = record { is = λ O M p R q r I. side_held O R x y M i F h; small = λ bound l. l i h }

  -- the one that points to the second end
  pub side_second :
      {i r : ℕ} → FirstHolder x y n k verts i → n ≤ i → SideRoom x y v n k verts groups points → x ≡ v → TowardIs y v n k verts groups points r
      → SideGroupIs x y v n k verts groups points r
  side_second {i} {r} F h S e T =
      record {
        is = λ O M p R q rs I. side_far O R x y M i y r F h (rw (eq-eqb x O.v (e ∙ sym q))) (T.is O M p R q rs I.rests_in I.y_in I.v_in I.corners_in);
        small = toward_low T S.reach.y_in S.reach.v_in S.reach.corners_in;
      }

  -- the one that points to the first end
  pub side_first :
      {i r : ℕ} → FirstHolder x y n k verts i → n ≤ i → SideRoom x y v n k verts groups points → (x ≡ v → ⊥) → TowardIs x v n k verts groups points r
      → SideGroupIs x y v n k verts groups points r
  side_first {i} {r} F h S e T =
      record {
        is = λ O M p R q rs I. side_far O R x y M i x r F h (rw (ne_eqb x O.v (λ d. e (d ∙ q)))) (T.is O M p R q rs I.rests_in I.x_in I.v_in I.corners_in);
        small = toward_low T S.reach.x_in S.reach.v_in S.reach.corners_in;
      }

-- ---- an entry with what stands for v in it

-- by the names that the tables have
followed_as : (O : Opening) (M : Mesh) (v before : ℕ) (s : Side) → O.v ≡ v → O.before ≡ before
    → followed M O s ≡ pick (stands v (side_ends s)) (turned v (copy_for_of v before (side_group M O s)) s) s
unfolding followed
followed_as O M v before s e f = ap₂ (λ (u b : ℕ). pick (stands u (side_ends s)) (turned u (copy_for_of u b (side_group M O s)) s) s) e f

module _ {x y v before k n : ℕ} {verts groups : List ℕ} {points : List Float} where
  -- a copy is among 1,024 particles
  pub copy_small : {g : ℕ} → CopiesSmall before n groups → SideGroupIs x y v n k verts groups points g → before + g ≤ 1024
  copy_small {g} C G = let l = C.low in omega (arith, G.small (1024 - before) (λ i h. omega (arith, C.small i h)))

  -- the copy of its group, where v is an end of it
  pub copy_at : {g r : ℕ} → CopiesSmall before n groups → stands v (x ∷ y ∷ []) ≡ true → SideGroupIs x y v n k verts groups points g → r ≡ copy_for_of v before g
      → SideCopyIs x y v before k n verts groups points r
  copy_at {g} {r} C t G e =
      record {
        is =
            λ O M count p B I.
            let s : Side = record { corners = x ∷ y ∷ [] } in
            let q : g ≡ side_group M O s = G.is O M p B.ringed B.at B.rests I in
            ap (λ (w : ℕ). turned v w s) (e ∙ ap (copy_for_of v before) q)
            ∙ sym (followed_as O M v before s B.at B.before_is ∙ ap (λ (b : Bool). pick b (turned v (copy_for_of v before (side_group M O s)) s) s) t);
        among = by (ℕ_discrete g 0);
      }
    where
      by : Dec (g ≡ 0) → (r ≡ v) ⊎ ((before ≤ r) × (r < 1024))
      by (yes z) = inl (e ∙ rw (eq-eqb g 0 z))
      by (no z) =
          let q : copy_for_of v before g ≡ before + g - 1 = rw (ne_eqb g 0 z) in
          inr (omega (arith, z), omega (arith, z, copy_small C G))

-- an entry that v is no end of follows as it is
row_stays : (O : Opening) (M : Mesh) (v before : ℕ) (row : Side) → O.v ≡ v → O.before ≡ before → stands v (side_ends row) ≡ false → followed M O row ≡ row
row_stays O M v before row e f off = followed_as O M v before row e f ∙ ap (λ (b : Bool). pick b (turned v (copy_for_of v before (side_group M O row)) row) row) off

-- an entry names v where its cells hold it
row_holds_lem : (v i S : ℕ) (s : List ℕ) → stands v (side_ends (side_row S s i)) ≡ holds 2 (cell 0 S s) v i
unfolding holds tab
row_holds_lem v i S s = refl

-- ---- one entry

module _ {i v before k n b : ℕ} {verts groups : List ℕ} {points : List Float} {s table : List ℕ} (P : EntryRoom i v before k n b verts groups points s table) where
  row_is : side_row (length s / 2) s i ≡ record { corners = get_or s i 0 ∷ (get_or s (length s / 2 + i) 0) ∷ [] }
  row_is = λ j. record { corners = col_0 0 (length s / 2) s i j ∷ col_1 0 (length s / 2) s i j ∷ [] }

  -- it lies in the block
  pub entry_in : i < length s / 2
  entry_in = omega (arith, P.here, P.linked.rows)

  -- v is an end of it
  pub entry_named : stands v (get_or s i 0 ∷ get_or s (length s / 2 + i) 0 ∷ []) ≡ true
  entry_named = ap (λ (r : Side). stands v (side_ends r)) (sym row_is) ∙ row_holds_lem v i (length s / 2) s ∙ P.holding

  module _ {w : ℕ} (C : SideCopyIs (get_or s i 0) (get_or s (length s / 2 + i) 0) v before k n verts groups points w) where
    -- it can be turned
    pub entry_turn : TurnRoom 2 i v w b s table
    entry_turn =
        record {
          wide = omega arith;
          linked = P.linked;
          here = P.here;
          holding = P.holding;
          head = ⊎_elim (λ q. subst (λ (z : ℕ). z < 1024) (sym q) low) (λ q. q.1) C.among;
          fresh = λ ne c x e. ⊎_elim (λ q. ne q) (λ q. let l = P.below c x in let m = q.0 in omega arith) C.among;
        }
      where
        low : v < 1024
        low = let g = holds_get 2 (cell 0 (length s / 2) s) i v P.holding in subst (λ (z : ℕ). z < 1024) g.1.1 (P.linked.apart.below g.0 i g.1.0 P.here)

    -- and then it follows
    pub entry_followed : {s' : List ℕ} → RowTurned 2 (length s / 2) i v w s s' → EntryFollowed i v before k n verts groups points s s'
    entry_followed {s'} T =
        let row : side_row (length s / 2) s' i ≡ turned v w (side_row (length s / 2) s i) = λ j. record { corners = T.here 0 (omega arith) j ∷ T.here 1 (omega arith) j ∷ [] } in
        record {
          here = λ O M count p B I. row ∙ ap (turned v w) row_is ∙ C.is O M count p B I ∙ ap (followed M O) (sym row_is);
          others = λ j hj ne t. record { corners = T.others 0 j hj ne t ∷ T.others 1 j hj ne t ∷ [] };
        }

-- ---- the loop over the entries

-- at the head of the loop: the first i entries follow, and the rest is as it was
pub record Following (v before k n count p b : ℕ) (verts groups : List ℕ) (points : List Float) (s₀ s : List ℕ) (i : ℕ) : Type 0 where
  pub below : i ≤ b
  pub long : length s ≡ length s₀
  pub done : (j : ℕ) → j < i → (O : Opening) (M : Mesh) → OpeningIn O M v before k n count p verts groups points → side_row (length s₀ / 2) s j ≡ followed M O (side_row (length s₀ / 2) s₀ j)
  pub rest : (j : ℕ) → i ≤ j → j < length s₀ / 2 → side_row (length s₀ / 2) s j ≡ side_row (length s₀ / 2) s₀ j

module _ {v before k n count p b : ℕ} {verts groups : List ℕ} {points : List Float} {s₀ : List ℕ} (R : SidesRoom v before k n count p b verts groups points s₀) where
  -- before the first turn
  pub following_start : Following v before k n count p b verts groups points s₀ s₀ 0
  following_start = record { below = zero-le; long = refl; done = λ j h. absurd (not-suc-le-zero h); rest = λ j h l. refl }

  -- the copies are small
  pub copies_small : CopiesSmall before n groups
  copies_small = let s = R.small in record { some = R.some; low = R.most; small = λ i h. omega (arith, R.below i h) }

  module _ {s : List ℕ} {i : ℕ} (F : Following v before k n count p b verts groups points s₀ s i) where
    -- as many places
    half : length s / 2 ≡ length s₀ / 2
    half = ap (λ (l : ℕ). l / 2) F.long

    -- it is in reach, in as many particles as rest in the block
    reach : i < b → (q : ℕ) → p ≤ q → q ≤ length points / point_columns → InReach q (get_or s i 0) (get_or s (length s / 2 + i) 0) v n k verts points
    reach h q low high =
        let e = half in
        let l = R.entries in
        let row = F.rest i (omega arith) (omega arith) in
        let a : get_or s i 0 ≡ cell 0 (length s₀ / 2) s₀ 0 i = sym (col_0 0 (length s₀ / 2) s i) ∙ ap (λ (t : Side). get_or t.corners 0 0) row in
        let c : get_or s (length s / 2 + i) 0 ≡ cell 0 (length s₀ / 2) s₀ 1 i =
        ap (λ (m : ℕ). get_or s (m + i) 0) e ∙ sym (col_1 0 (length s₀ / 2) s i) ∙ ap (λ (t : Side). get_or t.corners 1 0) row in
        let v_in = R.v_in in
        record {
          rests_in = high;
          x_in = omega (arith, R.a_in i h);
          y_in = omega (arith, R.b_in i h);
          v_in = omega arith;
          corners_in = λ j m. omega (arith, R.corners_in j m);
        }

    -- what the turn requires
    pub following_room : {table : List ℕ} → i < b → holds 2 (cell 0 (length s₀ / 2) s₀) v i ≡ true → SidesLinked b s table → EntryRoom i v before k n b verts groups points s table
    following_room h held L =
        record {
          here = h;
          linked = L;
          holding = holds_ext 2 (cell 0 (length s / 2) s) (cell 0 (length s₀ / 2) s₀) v i same ∙ held;
          below = λ c x. subst (λ (z : ℕ). z < before) (sym (same c x)) (low c x);
          side = record { room = R.room; reach = reach h (length points / point_columns) R.rests_in (omega arith) };
          copies = copies_small;
        }
      where
        row : side_row (length s₀ / 2) s i ≡ side_row (length s₀ / 2) s₀ i
        row = let l = R.entries in F.rest i (omega arith) (omega arith)

        same : (c : ℕ) → c < 2 → cell 0 (length s / 2) s c i ≡ cell 0 (length s₀ / 2) s₀ c i
        same zero x = ap (λ (m : ℕ). cell 0 m s 0 i) half ∙ ap (λ (t : Side). get_or t.corners 0 0) row
        same (suc zero) x = ap (λ (m : ℕ). cell 0 m s 1 i) half ∙ ap (λ (t : Side). get_or t.corners 1 0) row
        same (suc (suc c)) x = absurd (omega arith)

        low : (c : ℕ) → c < 2 → cell 0 (length s₀ / 2) s₀ c i < before
        low zero x = let q = R.behind in omega (arith, R.a_in i h)
        low (suc zero) x = let q = R.behind in omega (arith, R.b_in i h)
        low (suc (suc c)) x = absurd (omega arith)

    -- entries that do not name v are passed over
    pub following_next : {r : ℕ} → Gap (holds 2 (cell 0 (length s₀ / 2) s₀) v) i b r → Following v before k n count p b verts groups points s₀ s r
    following_next {r} G =
        record {
          below = G.within;
          long = F.long;
          done = λ j m O M B. by j m O M B (dec_lt j i);
          rest = λ j m l. let o = G.onward in F.rest j (omega arith) l;
        }
      where
        by : (j : ℕ) → j < r → (O : Opening) (M : Mesh) → OpeningIn O M v before k n count p verts groups points → Dec (j < i)
            → side_row (length s₀ / 2) s j ≡ followed M O (side_row (length s₀ / 2) s₀ j)
        by j m O M B (yes q) = F.done j q O M B
        by j m O M B (no q) =
            let w = R.entries in
            let u = G.within in
            F.rest j (omega (arith, q)) (omega arith)
            ∙ sym (row_stays O M v before (side_row (length s₀ / 2) s₀ j) B.at B.before_is (row_holds_lem v j (length s₀ / 2) s₀ ∙ G.none j (omega (arith, q)) m))

    -- a turn has one entry more follow
    pub following_more : {s' : List ℕ} → i < b → EntryFollowed i v before k n verts groups points s s' → length s' ≡ length s → Following v before k n count p b verts groups points s₀ s' (i + 1)
    following_more {s'} h E l =
        let e = half in
        let w = R.entries in
        record {
          below = omega arith;
          long = l ∙ F.long;
          done = λ j m O M B. by j m O M B (ℕ_discrete j i);
          rest = λ j m m'. other j m' (λ q. omega arith) ∙ F.rest j (omega arith) m';
        }
      where
        other : (j : ℕ) → j < length s₀ / 2 → (j ≡ i → ⊥) → side_row (length s₀ / 2) s' j ≡ side_row (length s₀ / 2) s j
        other j m ne = subst (λ (r : ℕ). side_row r s' j ≡ side_row r s j) half (E.others j (let e = half in omega arith) ne)

        by : (j : ℕ) → j < i + 1 → (O : Opening) (M : Mesh) → OpeningIn O M v before k n count p verts groups points → Dec (j ≡ i)
            → side_row (length s₀ / 2) s' j ≡ followed M O (side_row (length s₀ / 2) s₀ j)
        by j m O M B (yes q) =
            let w = R.entries in
            rw q
            (subst (λ (r : ℕ). side_row r s' i ≡ followed M O (side_row r s i)) half (E.here O M count p B (reach h p (omega arith) R.rests_in))
            ∙ ap (followed M O) (F.rest i (omega arith) (omega arith)))
        by j m O M B (no q) = let w = R.entries in let u = F.below in other j (omega arith) q ∙ F.done j (omega (arith, q)) O M B

    -- after the last turn
    pub following_done : b ≤ i → SidesFollowed v before k n count p b verts groups points s₀ s
    unfolding boundary_at
    following_done h =
        record {
          sides =
              λ O M B.
              ap (λ (r : ℕ). tab b (side_row r s)) half ∙ tab_ext b _ _ (λ j l. F.done j (omega arith) O M B)
              ∙ sym (map_tab (followed M O) b (side_row (length s₀ / 2) s₀));
        }

-- ---- the walk over the entries at v

-- where it stands behind q of them
abbrev pub stop_at : ℕ → ℕ → List ℕ → ℕ → ℕ
stop_at v b s q = stop_of 2 b (cell 0 (length s / 2) s) v q

-- they can be listed
pub list_room : {v b : ℕ} {s table : List ℕ} {ll : ℕ} → SidesLinked b s table → v < 1024 → b ≤ ll → ListRoom v 1024 2 2048 (length s / 2) b s table ll
list_room L h fits =
    record {
      room = record { cells = L.few; rows = L.rows; columns = omega arith; table = L.long; small = omega (arith, L.few) };
      here = h;
      linked = L.are;
      fits = fits;
    }

module _ {v before k n count p b : ℕ} {verts groups : List ℕ} {points : List Float} {s₀ : List ℕ} (R : SidesRoom v before k n count p b verts groups points s₀) where
  -- v has a head
  pub walk_head : v < 1024
  walk_head = omega (arith, R.behind, R.most, R.v_in)

  pub walk_start : Following v before k n count p b verts groups points s₀ s₀ (stop_at v b s₀ 0)
  walk_start = following_next R (following_start R) (stop_first 2 b (cell 0 (length s₀ / 2) s₀) v)

  module _ {list : List ℕ} {named : ℕ} (C : CellsListed 2 b v (cell 0 (length s₀ / 2) s₀) list named) (fits : b ≤ length list)
      {s : List ℕ} {q : ℕ} (F : Following v before k n count p b verts groups points s₀ s (stop_at v b s₀ q)) where
    -- at the end of the list
    pub walk_done : named ≤ q → q ≤ named → SidesFollowed v before k n count p b verts groups points s₀ s
    walk_done h l =
        let z : q ≡ named = omega arith in
        following_done R (subst (Following v before k n count p b verts groups points s₀ s) (ap (stop_at v b s₀) z ∙ stop_end (cell 0 (length s₀ / 2) s₀) C fits) F) (omega arith)

    module _ (h : q < named) where
      here : Following v before k n count p b verts groups points s₀ s (get_or list q 0)
      here = subst (Following v before k n count p b verts groups points s₀ s) (stop_read (cell 0 (length s₀ / 2) s₀) C fits q h) F

      inside : get_or list q 0 < b
      inside = subst (λ (j : ℕ). j < b) (stop_read (cell 0 (length s₀ / 2) s₀) C fits q h) (stop_here (cell 0 (length s₀ / 2) s₀) C fits q h).inside

      -- at an entry of the list
      pub walk_room : {table : List ℕ} → SidesLinked b s table → EntryRoom (get_or list q 0) v before k n b verts groups points s table
      walk_room L =
          following_room R here inside
          (subst (λ (j : ℕ). holds 2 (cell 0 (length s₀ / 2) s₀) v j ≡ true) (stop_read (cell 0 (length s₀ / 2) s₀) C fits q h) (stop_here (cell 0 (length s₀ / 2) s₀) C fits q h).passes) L

      -- and then comes the next one
      pub walk_on : {s' : List ℕ} → EntryFollowed (get_or list q 0) v before k n verts groups points s s' → length s' ≡ length s → Following v before k n count p b verts groups points s₀ s' (stop_at v b s₀ (q + 1))
      walk_on {s'} E l = following_next R (following_more R here inside E l) next
        where
          next : Gap (holds 2 (cell 0 (length s₀ / 2) s₀) v) (get_or list q 0 + 1) b (stop_at v b s₀ (q + 1))
          next =
              subst (λ (a : ℕ). Gap (holds 2 (cell 0 (length s₀ / 2) s₀) v) a b (stop_at v b s₀ (q + 1))) (ap suc (stop_read (cell 0 (length s₀ / 2) s₀) C fits q h) ∙ sym (add-one (get_or list q 0)))
              (subst (λ (a : ℕ). Gap (holds 2 (cell 0 (length s₀ / 2) s₀) v) (suc (stop_at v b s₀ q)) b (stop_at v b s₀ a)) (sym (add-one q)) (stop_here (cell 0 (length s₀ / 2) s₀) C fits q h).next)

-- ---- the rows that were passed

module _ {x y n k : ℕ} {verts : List ℕ} {i : ℕ} (passed : (j : ℕ) → j < i → row_holds x y k verts j ≡ false) where
  -- a row that holds both is the first
  pub holder_here : i < n → row_holds x y k verts i ≡ true → FirstHolder x y n k verts i
  holder_here h e = record { within = omega arith; earlier = passed; here = λ l. e }

  -- no row does
  pub holder_none : n ≤ i → FirstHolder x y n k verts n
  holder_none h = record { within = omega arith; earlier = λ j l. passed j (omega arith); here = λ l. absurd (omega arith) }
