-- Laws of the straddlers of a split and of its log: those of the list are the definition's, and so are the log and the edges without them. Assumes nothing.
use mathlib.Core.Path.{◌≡◌, refl, sym, ◌∙◌, ap, ap₂}
use mathlib.Core.Bool.{true, false, not}
use mathlib.Core.List.{List, [], ◌∷◌, ◌++◌, map, map-append}
use Prim.Native.Nat.{ℕ, ◌+◌, ◌-◌, ◌/◌, ◌<◌, ◌≤◌}
use native.Mathlib.Omega.{arith}
use borrow.Author.Tests.{leb-true, leb-false}
use lib.Dec.{leb}
use lib.ListN.{length, get_or, set, take, length-append, length-map, length-take, length-set}
use lib.Seq.{get_or-set_same, get_or-set_other, take-set-le}
use lib.Ieee.{Float}
use Rattle.lists.specs.Lists.{sift, up_to}
use Rattle.lists.specs.LeftOut.{left_out}
use Rattle.lists.proofs.Sifts.{up_to_length}
use Rattle.lists.proofs.Walks.{sift_same}
use Rattle.lists.proofs.Risen.{left_out_sift}
use Rattle.model.specs.Mesh.{Edge, Mesh, blank_edge}
use Rattle.model.specs.Elements.{Kind}
use Rattle.model.specs.Run.{split}
use Rattle.model.specs.Split.{Opening, made, straddles, split_entries, gone_entries}
use Rattle.mesh.specs.At.{edges_at}
use Rattle.mesh.specs.Log.{Words, words_of, log_at}
use Rattle.mesh.specs.Workers.{row_at}
use Rattle.mesh.specs.declared.Counts.{Counts}
use Rattle.mesh.specs.declared.Rooms.{Rooms}
use Rattle.straddling.specs.Tests.{Straddling, StraddlersListed}
use Rattle.edge_drops.specs.Parted.{listed, edges_parted, Listing}
use Rattle.split.specs.Steps.{logged_of}
use Rattle.work.specs.Removal.{gone_words}
use Rattle.split.specs.Settling.{copy_words, SplitAsked, SplitNoted, PartAsked, PartedFor, RowsListed}
use Rattle.work.proofs.Grows.{edges_many, edges_get}
use Rattle.work.proofs.Removals.{gone_listed, gone_many}
use Rattle.std.specs.Prelude.{Ok, Err}
use Rattle.mesh.specs.declared.refusals.Refusal.TheVariants.{Entries}

-- ---- the copies in the log

copy_words_lem : (v before : ℕ) (l : List ℕ) → map words_of (map (λ c. split c v) (map (λ g. before + g) l)) ≡ map (copy_words v before) l
copy_words_lem v before [] = refl
copy_words_lem v before (g ∷ l) = ap (λ (w : List Words). copy_words v before g ∷ w) (copy_words_lem v before l)

split_words : (O : Opening) (v before count : ℕ) → O.v ≡ v → O.before ≡ before → O.count ≡ count → map words_of (split_entries O) ≡ map (copy_words v before) (up_to (count - 1))
unfolding split_entries made
split_words O v before count p q r = copy_words_lem O.v O.before (up_to (O.count - 1)) ∙ ap₂ (λ (x y : ℕ). map (copy_words x y) (up_to (O.count - 1))) p q ∙ ap (λ (z : ℕ). map (copy_words v before) (up_to (z - 1))) r

split_count : (O : Opening) (count : ℕ) → O.count ≡ count → length (split_entries O) ≡ count - 1
unfolding split_entries made
split_count O count r =
    length-map (map (λ g. O.before + g) (up_to (O.count - 1))) (λ c. split c O.v) ∙ length-map (up_to (O.count - 1)) (λ g. O.before + g) ∙ up_to_length (O.count - 1)
    ∙ ap (λ (z : ℕ). z - 1) r

-- ---- the list

module _ (K : Kind) (L : Rooms) (k : Counts) (v before n count extra rows : ℕ) (verts groups corners ends log : List ℕ)
    (A : PartAsked K L k v before n count extra (length verts) (length groups) (length corners) ends (length log))
    (list : List ℕ) (s : ℕ) (long : 2049 ≤ length list) (D : StraddlersListed K v before n count k.triangles k.edges verts groups corners ends list s) where
  pub list_fits_lem : s ≤ length list
  list_fits_lem = omega (arith, D.few, A.few_edges)

  -- the list with how many are listed
  abbrev marked : List ℕ
  marked = set list 2048 s

  marked_says : listed marked ≡ s
  marked_says = get_or-set_same list 2048 s 0 (omega arith)

  marked_front : take s marked ≡ take s list
  marked_front = take-set-le s list 2048 s (omega (arith, D.few, A.few_edges))

  marked_whole : k.edges - s + listed marked ≡ k.edges
  marked_whole = omega (arith, marked_says, D.few)

  marked_at : (i : ℕ) → i < s → get_or marked i 0 ≡ get_or list i 0
  marked_at i h = get_or-set_other list 2048 i s 0 (λ e. omega (arith, e, D.few, A.few_edges))

  -- it is one of the edges in the blocks
  marked_listing : (ll : ℕ) → k.edges ≤ ll / 4 → Listing (k.edges - s) (length ends) ll marked
  marked_listing ll h =
      record {
        long = omega (arith, length-set list 2048 s);
        rising =
            record {
              rises = λ i j l m. omega (arith, marked_at i (omega (arith, marked_says)), marked_at j (omega (arith, marked_says)), D.rising.rises i j l (omega (arith, marked_says)));
              below = λ i l. omega (arith, marked_whole, marked_at i (omega (arith, marked_says)), D.rising.below i (omega (arith, marked_says)));
            };
        few = omega (arith, marked_whole, A.few_edges);
        rows = record { ends = omega (arith, marked_whole, A.straddle.ends); lengths = omega (arith, marked_whole) };
      }

  -- and the edges without those that it lists are left
  marked_left : (lengths : List Float) → edges_parted (k.edges - s) ends lengths marked ≡ left_out (take s list) (edges_at k.edges ends lengths)
  unfolding edges_parted
  marked_left lengths =
      ap (λ (m : ℕ). left_out (take (listed marked) marked) (edges_at m ends lengths)) marked_whole
      ∙ ap (λ (m : ℕ). left_out (take m marked) (edges_at k.edges ends lengths)) marked_says
      ∙ ap (λ (is : List ℕ). left_out is (edges_at k.edges ends lengths)) marked_front

  module _ (O : Opening) (M : Mesh) (volumes lengths : List Float) (S : Straddling K O M v before n count k.triangles k.edges verts groups corners volumes ends lengths) where
    gone_are : map words_of (gone_entries (straddles K M O) M.edges) ≡ map (gone_words ends) (take s list)
    gone_are =
        ap (λ (l : List Edge). map words_of (gone_entries (straddles K M O) l)) S.edges_are ∙ gone_listed (straddles K M O) ends lengths k.edges
        ∙ ap (map (gone_words ends)) (sym (D.listed O M volumes lengths S))

    gone_as_many : length (gone_entries (straddles K M O) M.edges) ≡ s
    gone_as_many =
        let l = length-take s list in
        ap (λ (l : List Edge). length (gone_entries (straddles K M O) l)) S.edges_are ∙ gone_many (straddles K M O) ends lengths k.edges
        ∙ ap length (sym (D.listed O M volumes lengths S)) ∙ omega (arith, l, list_fits_lem)

    -- how much is logged, and what
    logged_count : length (logged_of K O M) ≡ (count - 1) + s
    logged_count =
        length-append (split_entries O) (gone_entries (straddles K M O) M.edges) ∙ ap₂ (λ (a b : ℕ). a + b) (split_count O count S.count_is) gone_as_many

    logged_words : map (copy_words v before) (up_to (count - 1)) ++ map (gone_words ends) (take s list) ≡ map words_of (logged_of K O M)
    logged_words =
        ap₂ (λ (a b : List Words). a ++ b) (sym (split_words O v before count S.at S.before_is S.count_is)) (sym gone_are)
        ∙ sym (map-append words_of (split_entries O) (gone_entries (straddles K M O) M.edges))

    -- the edges that are left
    left_are : left_out (take s list) (edges_at k.edges ends lengths) ≡ sift (λ (a : Edge). not (straddles K M O a)) (edges_at k.edges ends lengths)
    unfolding up_to
    left_are =
        let es = edges_at k.edges ends lengths in
        ap (λ (is : List ℕ). left_out is es)
        (D.listed O M volumes lengths S
        ∙ sift_same (λ i. straddles K M O (row_at ends lengths i)) (λ i. straddles K M O (get_or es i blank_edge)) k.edges (λ i. i)
        (λ i l. ap (straddles K M O) (sym (edges_get k.edges ends lengths i l)))
        ∙ ap (λ (m : ℕ). sift (λ i. straddles K M O (get_or es i blank_edge)) (up_to m)) (sym (edges_many k.edges ends lengths)))
        ∙ left_out_sift (straddles K M O) es blank_edge

  -- the log lacks room
  pub part_refused : leb ((count - 1) + s + extra) (L.log - k.log) ≡ false → (list' log' : List ℕ) → PartedFor K L k v before n count extra rows verts groups corners ends list' log log' (Err Entries)
  part_refused f list' log' =
      let b : L.log - k.log < (count - 1) + s + extra = leb-false _ _ f in
      record { told = λ O M volumes lengths S. (refl, omega (arith, logged_count O M volumes lengths S, A.log_in)) }

  module _ (f : leb ((count - 1) + s + extra) (L.log - k.log) ≡ true) where
    -- what noting the split asks
    pub split_asked : SplitAsked v before (count - 1) k.log s list ends (length log)
    split_asked =
        let b : (count - 1) + s + extra ≤ L.log - k.log = leb-true _ _ f in
        record {
          here = A.here;
          small = omega (arith, A.small);
          listed =
              record {
                rows = k.edges;
                few = list_fits_lem;
                below = D.rising.below;
                ends_long = A.straddle.ends;
                ends_in = A.ends_in;
                log_long = omega (arith, A.log_in, A.log_long);
              };
        }

    -- all has room
    pub part_done : (log' : List ℕ) (g : ℕ) → SplitNoted v before (count - 1) k.log s list ends log log' g
        → PartedFor K L k v before n count extra rows verts groups corners ends marked log log'
        (Ok (record { particles = k.particles; triangles = k.triangles; edges = k.edges - s; boundary = rows; log = g }))
        × RowsListed k (record { particles = k.particles; triangles = k.triangles; edges = k.edges - s; boundary = rows; log = g }) rows (length ends) marked
    part_done log' g N =
        let b : (count - 1) + s + extra ≤ L.log - k.log = leb-true _ _ f in (
          record {
            told =
                λ O M volumes lengths S.
                record {
                  particles = refl;
                  triangles = refl;
                  boundary = refl;
                  few_edges = omega arith;
                  count = omega (arith, N.count, logged_count O M volumes lengths S);
                  fits = omega (arith, logged_count O M volumes lengths S, A.log_in);
                  edges = marked_left lengths ∙ left_are O M volumes lengths S;
                  entries = N.entries ∙ ap (λ (w : List Words). log_at k.log log ++ w) (logged_words O M volumes lengths S);
                };
          },
          record { listing = marked_listing; whole = marked_whole; triangles = refl; boundary = refl },
        )
