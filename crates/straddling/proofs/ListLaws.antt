-- Laws of the list of straddlers, where the edges at each corner of the fan are walked: one edge, the edges at one particle, and all corners. Assumes nothing.
use mathlib.Core.Path.{◌≡◌, refl, sym, ◌∙◌, ap, subst}
use mathlib.Core.Logic.{inl, inr, ⊎_elim}
use mathlib.Core.Bool.{Bool, true, false}
use mathlib.Core.List.{List}
use Prim.Native.Nat.{ℕ, suc, ◌*◌, ◌+◌, ◌/◌, ◌-◌, ◌<◌, ◌≤◌, zero-le}
use native.Mathlib.Nat.{not-suc-le-zero}
use native.Mathlib.Omega.{arith}
use native.Mathlib.Decide.{ℕ_discrete, dec_lt}
use borrow.Author.Count.{below_more}
use lib.ListN.{length, get_or, take, length-take, replicate, get_or-replicate, length-replicate, get_or-eq_default}
use lib.Seq.{get_or-take}
use Rattle.lists.specs.Lists.{stands}
use Rattle.lists.specs.LeftOut.{Listed}
use Rattle.lists.proofs.Truths.{untrue}
use Rattle.lists.proofs.Sifts.{stands_get, stands_none}
use Rattle.lists.proofs.Risen.{rising_few, rising_sift}
use Rattle.columns.specs.Block.{cell}
use Rattle.columns.proofs.Cells.{col_0}
use Rattle.model.specs.Elements.{Kind, corners_per_of}
use Rattle.model.specs.Split.{straddles}
use Rattle.mesh.specs.Workers.{row_at}
use Rattle.work.specs.Places.{EndsIn}
use Rattle.links.specs.Links.{lowest, holds, first_of, next_of}
use Rattle.links.specs.Rooms.{LinkRead}
use Rattle.links.specs.Linked.{Linked, EdgesLinked}
use Rattle.links.proofs.Lowest.{low_most, holds_made}
use Rattle.links.proofs.Walked.{NextIs, next_is, still_left, further_on}
use Rattle.split_plan.specs.Opened.{RingRoom}
use Rattle.straddling.specs.Tests.{StraddleRoom, NearRoom, StraddleTold, StraddlersListed}
use Rattle.straddling.specs.Putting.{PutRoom, RisingPut}
use Rattle.straddling.specs.Listing.{LookedAt, ListedYet, ListRoom, EdgeListed, EdgesListed, WalkTold}
use Rattle.straddling.proofs.HeldLaws.{edge_link}
use Rattle.straddling.proofs.StraddlerLaws.{told_at, told_none}

-- in a fresh table nothing is marked as walked
pub none_walked : (x : ℕ) → get_or {A = ℕ} (replicate 1024 0) x 0 ≡ 1 → ⊥
none_walked x h =
    elim (dec_lt x 1024) [
      | yes b ↦ let z = get_or-replicate {A = ℕ} 1024 x 0 0 b in omega (arith, h)
      | no b ↦ let z = get_or-eq_default {A = ℕ} (replicate 1024 0) 0 {n = x} (omega (arith, b, length-replicate {A = ℕ} 1024 0)) in omega (arith, h)
    ]

module _ (K : Kind) (v before n count t e : ℕ) (verts groups corners ends : List ℕ) where
  -- edge j was looked at; the list has straddlers alone, rising; the test of edge j told b
  abbrev Looked : List ℕ → ℕ → ℕ → Type 0
  Looked list r j = LookedAt K v before n count t e verts groups corners ends list r j

  abbrev Yet : List ℕ → ℕ → Type 0
  Yet list r = ListedYet K v before n count t e verts groups corners ends list r

  abbrev Test : ℕ → Bool → Type 0
  Test j b = StraddleTold K j v before n count t e verts groups corners ends b

  -- an edge that was looked at, where nothing left the list
  looked_still : (list : List ℕ) (r : ℕ) (list' : List ℕ) (q : ℕ) → ((j : ℕ) → Listed list r j → Listed list' q j) → (j : ℕ) → Looked list r j → Looked list' q j
  looked_still list r list' q f j w = ⊎_elim (λ T. inl T) (λ z. inr (f j z)) w

  -- ---- one edge

  module _ (list : List ℕ) (r : ℕ) (Y : Yet list r) where
    module _ (x i : ℕ) where
      -- x is not its first end
      pub edge_other : (get_or ends i 0 ≡ x → ⊥) → EdgeListed K v before n count t e verts groups corners ends x i list r list r
      edge_other ne = record { yet = Y; here = λ q. absurd (ne q); still = λ j w. w }

      -- it does not straddle
      pub edge_not : (b : Bool) → Test i b → b ≡ false → EdgeListed K v before n count t e verts groups corners ends x i list r list r
      edge_not b T q = record { yet = Y; here = λ z. inl (subst (Test i) q T); still = λ j w. w }

      pub edge_room : i < e → e ≤ length list → PutRoom i r list
      edge_room h long = record { most = e; below = h; long = long; rising = Y.rising }

      -- it straddles, and is put into the list
      pub edge_put : i < e → (b : Bool) → Test i b → b ≡ true → (list' : List ℕ) (q : ℕ) → RisingPut i r list list' q
          → EdgeListed K v before n count t e verts groups corners ends x i list r list' q
      edge_put h b T s list' q P =
          record {
            yet =
                record {
                  rising = P.rising e h Y.rising;
                  only =
                      λ k l.
                      ⊎_elim (λ z. subst (λ (y : ℕ). Test y true) (sym z) (subst (Test i) s T))
                      (λ w. subst (λ (y : ℕ). Test y true) w.is (Y.only w.place w.within)) (P.only k l);
                };
            here = λ z. inr P.here;
            still = P.still;
          }

    -- ---- the edges at one particle

    -- nothing changes where each edge whose first end is x does not straddle
    none_listed : (x : ℕ) → ((j : ℕ) → j < e → get_or ends j 0 ≡ x → Test j false) → EdgesListed K v before n count t e verts groups corners ends x list r list r
    none_listed x f = record { yet = Y; here = λ j l q. inl (f j l q); still = λ j w. w }

    -- v is an end of no straddler
    pub none_at : (x : ℕ) → x ≡ v → EdgesListed K v before n count t e verts groups corners ends x list r list r
    none_at x z = none_listed x (λ j l q. told_at K j v before n count t e verts groups corners ends (q ∙ z))

    -- and what is no particle is an end of no edge
    pub none_beyond : (x : ℕ) → EndsIn 1024 e ends → 1024 ≤ x → EdgesListed K v before n count t e verts groups corners ends x list r list r
    none_beyond x E h = none_listed x (λ j l q. absurd (omega (arith, E.first j l, col_0 0 (length ends / 4) ends j)))

  -- end c of edge j
  abbrev end_of : ℕ → ℕ → ℕ
  end_of = cell 0 (length ends / 4) ends

  -- at the head of the loop: the edges below `left` whose first end is x were looked at, and the next that holds x is the lowest from there on
  pub record Visiting (x : ℕ) (list₀ : List ℕ) (r₀ : ℕ) (list : List ℕ) (r at : ℕ) : Type 0 where
    pub left : ℕ
    pub below : left ≤ e
    pub next : at ≡ lowest (holds 2 end_of x) left (e - left)
    pub yet : Yet list r
    pub here : (j : ℕ) → j < left → get_or ends j 0 ≡ x → Looked list r j
    pub still : (j : ℕ) → Listed list₀ r₀ j → Listed list r j
    pub long : length list ≡ length list₀

  -- an edge holds its first end
  first_holds : (x j : ℕ) → get_or ends j 0 ≡ x → holds 2 end_of x j ≡ true
  first_holds x j q = holds_made 2 end_of 0 j x (omega arith) (col_0 0 (length ends / 4) ends j ∙ q)

  module _ (x : ℕ) (list₀ : List ℕ) (r₀ : ℕ) where
    pub visiting_start : (at : ℕ) → Yet list₀ r₀ → at ≡ first_of 2 e end_of x → Visiting x list₀ r₀ list₀ r₀ at
    unfolding first_of
    visiting_start at Y q =
        let z : e - 0 ≡ e = omega arith in
        record { left = 0; below = zero-le; next = rw z q; yet = Y; here = λ j h. absurd (not-suc-le-zero h); still = λ j w. w; long = refl }

    module _ (list : List ℕ) (r at : ℕ) (G : Visiting x list₀ r₀ list r at) where
      -- none is left
      pub visiting_done : at ≡ 0 → EdgesListed K v before n count t e verts groups corners ends x list₀ r₀ list r
      visiting_done z =
          record {
            yet = G.yet;
            here =
                λ j l q.
                elim (dec_lt j G.left) [
                  | yes b ↦ G.here j b q
                  | no b ↦ absurd (let m = low_most (holds 2 end_of x) G.left (e - G.left) j (omega (arith, b)) (omega (arith, b)) (first_holds x j q) in omega (arith, m.0, G.next))
                ];
            still = G.still;
          }

      module _ (some : 0 < at) where
        abbrev one : NextIs (holds 2 end_of x) G.left (e - G.left) (at - 1)
        one = next_is (holds 2 end_of x) G.left (e - G.left) (at - 1) (sym G.next ∙ omega arith)

        pub visiting_within : at - 1 < e
        visiting_within = omega (arith, one.within, G.below)

        pub visiting_link : {table : List ℕ} → EdgesLinked e ends table → LinkRead 1024 2 2048 (length ends / 4) x (at - 1) ends (length table)
        visiting_link L = edge_link L (at - 1) visiting_within one.passes

        -- the next one
        pub visiting_more : (list' : List ℕ) (r' : ℕ) → EdgeListed K v before n count t e verts groups corners ends x (at - 1) list r list' r' → length list' ≡ length list
            → (next : ℕ) → next ≡ next_of 2 e end_of x (at - 1) → Visiting x list₀ r₀ list' r' next
        unfolding next_of
        visiting_more list' r' E long next q =
            record {
              left = suc (at - 1);
              below = visiting_within;
              next = q;
              yet = E.yet;
              here =
                  λ j h z.
                  elim (ℕ_discrete j (at - 1)) [
                    | yes s ↦ subst (Looked list' r') (sym s) (E.here (ap (λ (u : ℕ). get_or ends u 0) (sym s) ∙ z))
                    | no s ↦
                        elim (dec_lt j G.left) [
                          | yes b ↦ looked_still list r list' r' E.still j (G.here j b z)
                          | no b ↦
                              absurd
                              (let m = low_most (holds 2 end_of x) G.left (e - G.left) j (omega (arith, b)) (omega (arith, b, visiting_within)) (first_holds x j z) in
                              omega (arith, m.1, G.next, s))
                        ]
                  ];
              still = λ j w. E.still j (G.still j w);
              long = long ∙ G.long;
            }

    -- and it is further on
    pub visiting_less : (list : List ℕ) (r at : ℕ) → Visiting x list₀ r₀ list r at → 0 < at → (next : ℕ) → next ≡ next_of 2 e end_of x (at - 1) → still_left e next < still_left e at
    unfolding next_of
    visiting_less list r at G some next q = further_on (holds 2 end_of x) e at some (visiting_within list r at G some) next q

  -- ---- all corners

  -- the edges whose first end is x were looked at
  abbrev AtLooked : List ℕ → ℕ → ℕ → Type 0
  AtLooked list r x = (j : ℕ) → j < e → get_or ends j 0 ≡ x → Looked list r j

  -- at the head of the loop: the edges whose first end is one of the first q corners were looked at, and so were those at each particle that is marked as walked
  pub record Rounding (list₀ list : List ℕ) (r q : ℕ) (walked : List ℕ) : Type 0 where
    pub yet : Yet list r
    pub here : (i : ℕ) → i < q → AtLooked list r (get_or verts i 0)
    pub seen : (x : ℕ) → get_or walked x 0 ≡ 1 → AtLooked list r x
    pub long : length list ≡ length list₀
    pub wide : length walked ≡ 1024

  pub rounding_start : (list₀ walked : List ℕ) → ((x : ℕ) → get_or walked x 0 ≡ 1 → ⊥) → length walked ≡ 1024 → Rounding list₀ list₀ 0 0 walked
  rounding_start list₀ walked none wide =
      record {
        yet =
            record {
              rising = record { rises = λ i j h l. absurd (not-suc-le-zero l); below = λ i l. absurd (not-suc-le-zero l) };
              only = λ i l. absurd (not-suc-le-zero l);
            };
        here = λ i l. absurd (not-suc-le-zero l);
        seen = λ x h. absurd (none x h);
        long = refl;
        wide = wide;
      }

  module _ (list₀ list : List ℕ) (r q : ℕ) (walked : List ℕ) (G : Rounding list₀ list r q walked) where
    pub rounding_room : {links near : List ℕ} → StraddleRoom K n t e (length verts) (length groups) (length corners) (length ends) → NearRoom K n e verts ends near → Linked K t corners links → e ≤ length list₀
        → ListRoom K v before n count t e verts groups corners ends links near list r
    rounding_room S N L h = record { room = S; by_near = N; linked = L; long = omega (arith, G.long); yet = G.yet }

    -- a corner whose edges were walked before; one that is no particle has none
    pub rounding_passed : EndsIn 1024 e ends → (walked' : List ℕ) → WalkTold (get_or verts q 0) walked walked' true → Rounding list₀ list r (q + 1) walked'
    rounding_passed E walked' w =
        subst (Rounding list₀ list r (q + 1)) (sym w.1)
        (record {
          yet = G.yet;
          here = below_more (λ (i : ℕ). AtLooked list r (get_or verts i 0)) q G.here at_last;
          seen = G.seen;
          long = G.long;
          wide = G.wide;
        })
      where
        at_last : AtLooked list r (get_or verts q 0)
        at_last j l z =
            elim (dec_lt (get_or verts q 0) (length walked)) [
              | yes b ↦ G.seen (get_or verts q 0) (w.0 b) j l z
              | no b ↦ absurd (omega (arith, b, G.wide, first_below j l, z))
            ]
          where
            first_below : (i : ℕ) → i < e → get_or ends i 0 < 1024
            first_below i h = subst (λ (a : ℕ). a < 1024) (col_0 0 (length ends / 4) ends i) (E.first i h)

    pub rounding_more : (walked' : List ℕ) → WalkTold (get_or verts q 0) walked walked' false → length walked' ≡ length walked
        → (list' : List ℕ) (r' : ℕ) → EdgesListed K v before n count t e verts groups corners ends (get_or verts q 0) list r list' r' → length list' ≡ length list → Rounding list₀ list' r' (q + 1) walked'
    rounding_more walked' w wide list' r' E long =
        record {
          yet = E.yet;
          here = below_more (λ (i : ℕ). AtLooked list' r' (get_or verts i 0)) q (λ i h. still (G.here i h)) E.here;
          seen = λ x h. ⊎_elim (λ s. subst (AtLooked list' r') (sym s) E.here) (λ s. still (G.seen x s)) (w x h);
          long = long ∙ G.long;
          wide = wide ∙ G.wide;
        }
      where
        still : {x : ℕ} → AtLooked list r x → AtLooked list' r' x
        still A j l z = looked_still list r list' r' E.still j (A j l z)

    -- after the last corner each edge was looked at: one whose first end is no corner does not straddle
    pub rounding_done : {k lg : ℕ} → RingRoom n (corners_per_of K) (length verts) lg → k ≡ corners_per_of K → n * k ≤ q → e ≤ length list₀ → StraddlersListed K v before n count t e verts groups corners ends list r
    rounding_done {k} room per all long =
        let looked : (j : ℕ) → j < e → Looked list r j = λ j l. by j l (stands (get_or ends j 0) (take q verts)) refl in
        let few : r ≤ e = rising_few G.yet.rising in
        record {
          few = few;
          rising = G.yet.rising;
          listed =
              λ O M W B S.
              rising_sift (λ i. straddles K M O (row_at ends B i)) list e r (omega (arith, few, G.long)) G.yet.rising (λ i l. sym ((G.yet.only i l).is O M W B S))
              (λ x l s. ⊎_elim (λ T. untrue (T.is O M W B S ∙ s)) (λ w. w) (looked x l));
        }
      where
        by : (j : ℕ) → j < e → (s : Bool) → stands (get_or ends j 0) (take q verts) ≡ s → Looked list r j
        by j l true z =
            let w = stands_get (get_or ends j 0) (take q verts) z in
            let b : w.0 < q = omega (arith, w.1.0, length-take q verts) in
            G.here w.0 b j l (sym w.1.1 ∙ get_or-take q verts w.0 0 b)
        by j l false z =
            inl
            (told_none K j v before n count t e verts groups corners ends room
            (λ i b y.
            let q_all : n * corners_per_of K ≤ q = subst (λ (u : ℕ). n * u ≤ q) per all in
            let fits = room.verts in
            let lt = length-take q verts in
            stands_none (get_or ends j 0) (take q verts) i z (omega arith) (get_or-take q verts i 0 (omega arith) ∙ y)))
