-- Laws of masks and of lists of edges: marks made one after another, edges noted, marked rows gone, and that they are those of the model. Assumes nothing.
use mathlib.Core.Path.{◌≡◌, refl, sym, ◌∙◌, ap, ap₂, subst}
use mathlib.Core.Bool.{Bool, true, false, ◌&&◌}
use mathlib.Core.List.{List, [], ◌∷◌, ◌++◌, map, append-nil, append_assoc, map-append}
use Prim.Native.Nat.{ℕ, ◌+◌, ◌/◌, ◌-◌, ◌<◌, ◌≤◌, zero-le}
use native.Mathlib.Omega.{arith}
use native.Mathlib.Numerals.{add-one}
use borrow.Author.Count.{below_more}
use borrow.Author.Tests.{eq-eqb, ne_eqb}
use lib.Dec.{eqb}
use lib.Ieee.{Float}
use lib.ListN.{length, get_or, set, take, length-set, length-append, length-map}
use lib.Seq.{get_or-set_same, get_or-set_other}
use Rattle.lists.specs.Lists.{stands, pick, sift, keep, up_to, tab}
use Rattle.lists.proofs.Sifts.{sift_length, sift_append, sift_stands, up_to_length, up_to_stands, map_tab}
use Rattle.lists.proofs.Steps.{sift_step}
use Rattle.lists.proofs.Risen.{take_more, sift_map}
use Rattle.columns.specs.Block.{BlockKept}
use Rattle.columns.proofs.Cells.{col_0, col_1}
use Rattle.columns.specs.View.{NextMarked}
use Rattle.columns.proofs.Keep.{compact_start, compact_done}
use Rattle.columns.proofs.Rows.{rows_keep}
use Rattle.lists.proofs.Walks.{sift_same, tab_split}
use Rattle.model.specs.Mesh.{Edge}
use Rattle.mesh.specs.At.{edges_at, boundary_at}
use Rattle.mesh.specs.Log.{Words, log_at, words_of}
use Rattle.mesh.specs.Workers.{Removed, row_at}
use Rattle.mesh.specs.declared.Counts.{Counts}
use Rattle.mesh.specs.declared.Rooms.{Rooms}
use Rattle.work.specs.Removal.{marked, marked_of, gone_words, NoteRoom, EdgesNoted, ListNoted, GoneRoom, BlocksGone}
use Rattle.model.specs.Run.{edge}
use Rattle.model.specs.Split.{gone_entries}
use Rattle.lists.proofs.Truths.{untrue}
use Rattle.columns.proofs.Blocks.{kept_le}

-- ---- marks

mark_eqb : (t : Bool) → eqb (pick t 1 0) 1 ≡ t
mark_eqb true = refl
mark_eqb false = refl

pub mark_small : (t : Bool) → pick t 1 0 ≤ 1
mark_small true = omega arith
mark_small false = omega arith

-- at the head of a loop: the first i places are marked as T tells
pub record Marking (T : ℕ → Bool) (n : ℕ) (mask₀ mask : List ℕ) (i : ℕ) : Type 0 where
  pub marks : (j : ℕ) → j < i → marked mask j ≡ T j
  pub inside : i ≤ n
  pub long : length mask ≡ length mask₀

-- and so many of them pass
pub record Counting (T : ℕ → Bool) (i count : ℕ) : Type 0 where
  pub counted : count ≡ length (sift T (up_to i))

module _ (T : ℕ → Bool) where
  pub counting_few : (i count : ℕ) → Counting T i count → count ≤ i
  counting_few i count C = omega (arith, C.counted, sift_length T (up_to i), up_to_length i)

  pub counting_start : Counting T 0 0
  unfolding up_to tab sift
  counting_start = record { counted = refl }

  one_length : (t : Bool) (j : ℕ) → length (pick t (j ∷ []) []) ≡ pick t 1 0
  one_length true j = refl
  one_length false j = refl

  pub counting_step : (i count m : ℕ) → Counting T i count → m ≡ pick (T i) 1 0 → Counting T (i + 1) (count + m)
  unfolding up_to
  counting_step i count m C e =
      record {
        counted =
            ap₂ (λ (a b : ℕ). a + b) C.counted (e ∙ sym (one_length (T i) i)) ∙ sym (length-append (sift T (tab i (λ k. k))) (pick (T i) (i ∷ []) []))
            ∙ ap length (sym (sift_step T (λ k. k) i));
      }

  module _ (n : ℕ) (mask₀ : List ℕ) where
    pub marking_start : Marking T n mask₀ mask₀ 0
    marking_start = record { marks = λ j l. absurd (omega arith); inside = omega arith; long = refl }

    pub marking_step : (mask : List ℕ) (i m : ℕ) → Marking T n mask₀ mask i → i < n → n ≤ length mask₀ → m ≡ pick (T i) 1 0 → Marking T n mask₀ (set mask i m) (i + 1)
    marking_step mask i m G h room q =
        let long = G.long in
        record {
          marks =
              below_more (λ (j : ℕ). marked (set mask i m) j ≡ T j) i
              (λ j l. ap (λ (z : ℕ). eqb z 1) (get_or-set_other mask i j m 0 (λ z. omega arith)) ∙ G.marks j l)
              (ap (λ (z : ℕ). eqb z 1) (get_or-set_same mask i m 0 (omega arith) ∙ q) ∙ mark_eqb (T i));
          inside = omega arith;
          long = length-set mask i m ∙ G.long;
        }

-- ---- marked edges noted

module _ (mask : List ℕ) where
  marked_step : (i : ℕ) → marked_of mask (i + 1) ≡ marked_of mask i ++ pick (marked mask i) (i ∷ []) []
  unfolding marked_of up_to
  marked_step i = sift_step (marked mask) (λ k. k) i

  marked_take : (i : ℕ) → get_or mask i 0 ≡ 1 → marked_of mask (i + 1) ≡ marked_of mask i ++ (i ∷ [])
  marked_take i e = marked_step i ∙ ap (λ (t : Bool). marked_of mask i ++ pick t (i ∷ []) []) (eq-eqb (get_or mask i 0) 1 e)

  marked_skip : (i : ℕ) → (get_or mask i 0 ≡ 1 → ⊥) → marked_of mask (i + 1) ≡ marked_of mask i
  marked_skip i n = marked_step i ∙ ap (λ (t : Bool). marked_of mask i ++ pick t (i ∷ []) []) (ne_eqb (get_or mask i 0) 1 n) ∙ append-nil (marked_of mask i)

  -- the marked below a are untrue more than those below n
  marked_most : (a n : ℕ) → a ≤ n → length (marked_of mask a) ≤ length (marked_of mask n)
  unfolding marked_of up_to
  marked_most a n h =
      let e : sift (marked mask) (tab n (λ k. k)) ≡ sift (marked mask) (tab a (λ k. k)) ++ sift (marked mask) (tab (n - a) (λ k. a + k)) =
      ap (sift (marked mask)) (tab_split a n (λ k. k) h) ∙ sift_append (marked mask) (tab a (λ k. k)) (tab (n - a) (λ k. a + k)) in
      omega (arith, ap length e, length-append (sift (marked mask) (tab a (λ k. k))) (sift (marked mask) (tab (n - a) (λ k. a + k))))

-- the words as they are read of the ends of edge i
words_read : (ends : List ℕ) (i : ℕ) → ◌≡◌ {A = Words} (record { kind = 2; a = get_or ends i 0; b = get_or ends (length ends / 4 + i) 0; p = 0; q = 0; t = 0 }) (gone_words ends i)
words_read ends i = λ z. record { kind = 2; a = sym (col_0 0 (length ends / 4) ends i) z; b = sym (col_1 0 (length ends / 4) ends i) z; p = 0; q = 0; t = 0 }

-- at the head of the loop: the marked among the first i edges are noted
pub record Noting (mask : List ℕ) (n at : ℕ) (ends log₀ log : List ℕ) (w i : ℕ) : Type 0 where
  pub count : w ≡ at + length (marked_of mask i)
  pub entries : log_at w log ≡ log_at at log₀ ++ map (gone_words ends) (marked_of mask i)
  pub inside : i ≤ n
  pub long : length log ≡ length log₀

module _ (mask : List ℕ) (n at : ℕ) (ends log₀ : List ℕ) where
  pub noting_start : Noting mask n at ends log₀ log₀ at 0
  unfolding marked_of up_to tab sift
  noting_start = record { count = omega arith; entries = sym (append-nil (log_at at log₀)); inside = omega arith; long = refl }

  module _ (log : List ℕ) (w i : ℕ) (G : Noting mask n at ends log₀ log w i) (h : i < n) where
    pub noting_skip : (get_or mask i 0 ≡ 1 → ⊥) → Noting mask n at ends log₀ log w (i + 1)
    noting_skip d =
        let e = sym (marked_skip mask i d) in
        record {
          count = G.count ∙ ap (λ (l : List ℕ). at + length l) e;
          entries = G.entries ∙ ap (λ (l : List ℕ). log_at at log₀ ++ map (gone_words ends) l) e;
          inside = omega arith;
          long = G.long;
        }

    module _ (m : get_or mask i 0 ≡ 1) where
      one_more : length (marked_of mask (i + 1)) ≡ length (marked_of mask i) + 1
      one_more = ap length (marked_take mask i m) ∙ length-append (marked_of mask i) (i ∷ [])

      -- there is room for one more
      pub noting_room : NoteRoom mask n at ends (length log₀) → w < length log / 6
      noting_room R = omega (arith, G.count, G.long, R.log_long, one_more, marked_most mask (i + 1) n (omega arith))

      pub noting_take : (log' : List ℕ)
          → log_at (w + 1) log' ≡ log_at w log ++ (record { kind = 2; a = get_or ends i 0; b = get_or ends (length ends / 4 + i) 0; p = 0; q = 0; t = 0 } ∷ [])
          → length log' ≡ length log → Noting mask n at ends log₀ log' (w + 1) (i + 1)
      noting_take log' e l =
          record {
            count = omega (arith, G.count, one_more);
            entries =
                e ∙ ap₂ (λ (a : List Words) (b : Words). a ++ (b ∷ [])) G.entries (words_read ends i)
                ∙ append_assoc (log_at at log₀) (map (gone_words ends) (marked_of mask i)) (gone_words ends i ∷ [])
                ∙ ap (λ (l : List Words). log_at at log₀ ++ l) (sym (map-append (gone_words ends) (marked_of mask i) (i ∷ [])))
                ∙ ap (λ (l : List ℕ). log_at at log₀ ++ map (gone_words ends) l) (sym (marked_take mask i m));
            inside = omega arith;
            long = l ∙ G.long;
          }

    -- the same, where the branches meet
    pub noting_skipped : (log' : List ℕ) (w' : ℕ) → (get_or mask i 0 ≡ 1 → ⊥) → log' ≡ log → w' ≡ w → Noting mask n at ends log₀ log' w' (i + 1)
    noting_skipped log' w' d p q = subst (λ (l : List ℕ). Noting mask n at ends log₀ l w' (i + 1)) (sym p) (subst (λ (z : ℕ). Noting mask n at ends log₀ log z (i + 1)) (sym q) (noting_skip d))

    pub noting_took : (log₁ log' : List ℕ) (w' : ℕ) → get_or mask i 0 ≡ 1
        → log_at (w + 1) log₁ ≡ log_at w log ++ (record { kind = 2; a = get_or ends i 0; b = get_or ends (length ends / 4 + i) 0; p = 0; q = 0; t = 0 } ∷ [])
        → length log₁ ≡ length log → log' ≡ log₁ → w' ≡ w + 1 → Noting mask n at ends log₀ log' w' (i + 1)
    noting_took log₁ log' w' m e l p q =
        subst (λ (l : List ℕ). Noting mask n at ends log₀ l w' (i + 1)) (sym p) (subst (λ (z : ℕ). Noting mask n at ends log₀ log₁ z (i + 1)) (sym q) (noting_take m log₁ e l))

  -- all are noted
  pub noting_done : (log : List ℕ) (w i : ℕ) → Noting mask n at ends log₀ log w i → n ≤ i → EdgesNoted mask n at ends log₀ log w
  noting_done log w i G h =
      let inside = G.inside in
      let all : i ≡ n = omega arith in
      record {
        count = G.count ∙ ap (λ (z : ℕ). at + length (marked_of mask z)) all;
        entries = G.entries ∙ ap (λ (z : ℕ). log_at at log₀ ++ map (gone_words ends) (marked_of mask z)) all;
      }

-- ---- listed edges noted

-- at the head of the loop: the first i of the list are noted
pub record ListNoting (list : List ℕ) (s at : ℕ) (ends log₀ log : List ℕ) (i : ℕ) : Type 0 where
  pub entries : log_at (at + i) log ≡ log_at at log₀ ++ map (gone_words ends) (take i list)
  pub inside : i ≤ s
  pub long : length log ≡ length log₀

module _ (list : List ℕ) (s at : ℕ) (ends log₀ : List ℕ) where
  pub listing_start : ListNoting list s at ends log₀ log₀ 0
  listing_start =
      let z : at + 0 ≡ at = omega arith in
      record { entries = ap (λ (n : ℕ). log_at n log₀) z ∙ sym (append-nil (log_at at log₀)); inside = zero-le; long = refl }

  module _ (log : List ℕ) (i : ℕ) (G : ListNoting list s at ends log₀ log i) where
    pub listing_more : i < s → s ≤ length list → (log' : List ℕ)
        → log_at (at + i + 1) log' ≡ log_at (at + i) log
        ++ (record { kind = 2; a = get_or ends (get_or list i 0) 0; b = get_or ends (length ends / 4 + get_or list i 0) 0; p = 0; q = 0; t = 0 } ∷ [])
        → length log' ≡ length log → ListNoting list s at ends log₀ log' (i + 1)
    listing_more h few log' e l =
        let z : at + (i + 1) ≡ at + i + 1 = omega arith in
        record {
          entries =
              ap (λ (n : ℕ). log_at n log') z ∙ e ∙ ap₂ (λ (a : List Words) (b : Words). a ++ (b ∷ [])) G.entries (words_read ends (get_or list i 0))
              ∙ append_assoc (log_at at log₀) (map (gone_words ends) (take i list)) (gone_words ends (get_or list i 0) ∷ [])
              ∙ ap (λ (l : List Words). log_at at log₀ ++ l) (sym (map-append (gone_words ends) (take i list) (get_or list i 0 ∷ [])))
              ∙ ap (λ (l : List ℕ). log_at at log₀ ++ map (gone_words ends) l) (sym (take_more i list 0 (omega arith)) ∙ ap (λ (n : ℕ). take n list) (sym (add-one i)));
          inside = omega arith;
          long = l ∙ G.long;
        }

    -- all are noted
    pub listing_done : s ≤ i → ListNoted list s at ends log₀ log (at + s)
    listing_done h =
        let inside = G.inside in
        let all : i ≡ s = omega arith in
        record { count = refl; entries = subst (λ (z : ℕ). log_at (at + z) log ≡ log_at at log₀ ++ map (gone_words ends) (take z list)) all G.entries }

-- ---- where none is marked

-- untrue number stands in a list of none
none_stands : (l : List ℕ) → length l ≡ 0 → (x : ℕ) → stands x l ≡ false
none_stands [] e x = refl
none_stands (y ∷ l) e x = absurd (omega arith)

and_off : (t : Bool) → t && true ≡ false → t ≡ false
and_off true e = e
and_off false e = refl

-- where none is marked, each is unmarked
unmarked : (mask : List ℕ) (n : ℕ) → length (marked_of mask n) ≡ 0 → (j : ℕ) → j < n → marked mask j ≡ false
unfolding marked_of
unmarked mask n z j h =
    and_off (marked mask j) (ap (λ (t : Bool). marked mask j && t) (sym (up_to_stands n j h)) ∙ sym (sift_stands (marked mask) j (up_to n)) ∙ none_stands (sift (marked mask) (up_to n)) z j)

-- so the search for a marked row comes to the end
none_next : (mask : List ℕ) (n : ℕ) → length (marked_of mask n) ≡ 0 → NextMarked mask 0 n n
none_next mask n z =
    record {
      above = zero-le;
      below = omega arith;
      none = λ k _ h t. untrue (sym (unmarked mask n z k h) ∙ eq-eqb _ _ t);
      stop = λ h. absurd (omega arith);
    }

-- all edges stay
pub none_removed : (mask : List ℕ) (n s : ℕ) (ends : List ℕ) (lengths : List Float) → s ≡ length (marked_of mask n) → s ≡ 0 → Removed mask n n (edges_at n ends lengths) (edges_at n ends lengths)
unfolding edges_at
none_removed mask n s ends lengths c z =
    let q = compact_done mask n (row_at ends lengths) (row_at ends lengths) n n (compact_start mask n (row_at ends lengths) n (none_next mask n (sym c ∙ z))) (omega arith) in
    record { count = q.0; edges = q.1 }

-- a list of none
no_element : {A : Type 0} (l : List A) → length l ≡ 0 → l ≡ []
no_element [] e = refl
no_element (a ∷ l) e = absurd (omega arith)

-- and nothing is noted
pub none_noted : (mask : List ℕ) (n s at : ℕ) (ends log : List ℕ) → s ≡ length (marked_of mask n) → s ≡ 0 → EdgesNoted mask n at ends log log at
none_noted mask n s at ends log c z =
    record {
      count = omega arith;
      entries = sym (ap (λ (l : List ℕ). log_at at log ++ map (gone_words ends) l) (no_element (marked_of mask n) (sym c ∙ z)) ∙ append-nil (log_at at log));
    }

-- ---- the blocks

-- the boundary entries that the mask leaves
sides_kept : (mask : List ℕ) (n : ℕ) (A A' : List ℕ) (r : ℕ) → BlockKept 0 mask n 2 (length A / 2) A A' r → length A' ≡ length A → boundary_at r A' ≡ keep mask (boundary_at n A)
unfolding boundary_at
sides_kept mask n A A' r B l =
    rw (B.count, l)
    (rows_keep mask n _ _ (λ k h i. record { corners = B.cells 0 k (omega arith) h i ∷ B.cells 1 k (omega arith) h i ∷ [] }))

-- the blocks without the marked
pub blocks_gone : (L : Rooms) (k : Counts) (s : ℕ) (edge_mask side_mask ends ends' : List ℕ) (lengths lengths' : List Float) (outline outline' log log' : List ℕ) (e b g : ℕ)
    → GoneRoom L k s edge_mask (length side_mask) ends (length lengths) (length outline) (length log) → s ≤ L.log - k.log
    → EdgesNoted edge_mask k.edges k.log ends log log' g → Removed edge_mask k.edges e (edges_at k.edges ends lengths) (edges_at e ends' lengths')
    → BlockKept 0 side_mask k.boundary 2 (length outline / 2) outline outline' b → length outline' ≡ length outline
    → BlocksGone L k (record { particles = k.particles; triangles = k.triangles; edges = e; boundary = b; log = g }) edge_mask side_mask ends ends' lengths lengths' outline outline' log log'
blocks_gone L k s em sm ends ends' lengths lengths' outline outline' log log' e b g R h N E B l =
    record {
      particles = refl;
      triangles = refl;
      few_edges = omega (arith, E.count, kept_le em k.edges);
      few_boundary = omega (arith, B.count, kept_le sm k.boundary);
      few_log = omega (arith, N.count, R.marked_are, R.log_in);
      edges = E.edges;
      boundary = sides_kept sm k.boundary outline outline' b B l;
      entries = N.entries;
    }

-- ---- edges that went as the model's

-- the rows that pass, by their numbers
sift_rows : {A : Type 0} (p : A → Bool) (n : ℕ) (row : ℕ → A) → sift p (tab n row) ≡ map row (sift (λ j. p (row j)) (up_to n))
unfolding up_to
sift_rows p n row = ap (sift p) (sym (map_tab row n (λ k. k))) ∙ sift_map p row (tab n (λ k. k))

module _ (p : Edge → Bool) (ends : List ℕ) (lengths : List Float) where
  words_of_lem : (l : List ℕ) → map words_of (map (λ (e : Edge). edge e.a e.b) (map (row_at ends lengths) l)) ≡ map (gone_words ends) l
  words_of_lem [] = refl
  words_of_lem (j ∷ l) = ap (λ (t : List Words). gone_words ends j ∷ t) (words_of_lem l)

  -- the edges that p tells of, by their numbers
  pub gone_listed : (n : ℕ) → map words_of (gone_entries p (edges_at n ends lengths)) ≡ map (gone_words ends) (sift (λ j. p (row_at ends lengths j)) (up_to n))
  unfolding gone_entries edges_at
  gone_listed n =
      ap (λ (l : List Edge). map words_of (map (λ (e : Edge). edge e.a e.b) l)) (sift_rows p n (row_at ends lengths)) ∙ words_of_lem (sift (λ j. p (row_at ends lengths j)) (up_to n))

  -- as many
  pub gone_many : (n : ℕ) → length (gone_entries p (edges_at n ends lengths)) ≡ length (sift (λ j. p (row_at ends lengths j)) (up_to n))
  gone_many n =
      sym (length-map (gone_entries p (edges_at n ends lengths)) words_of) ∙ ap length (gone_listed n) ∙ length-map (sift (λ j. p (row_at ends lengths j)) (up_to n)) (gone_words ends)

  -- the marked edges, where they are those that p tells of
  pub gone_words_lem : (mask : List ℕ) (n : ℕ) → ((j : ℕ) → j < n → marked mask j ≡ p (row_at ends lengths j)) → map words_of (gone_entries p (edges_at n ends lengths)) ≡ map (gone_words ends) (marked_of mask n)
  unfolding marked_of up_to
  gone_words_lem mask n h = gone_listed n ∙ ap (map (gone_words ends)) (sift_same (λ j. p (row_at ends lengths j)) (marked mask) n (λ k. k) (λ j l. sym (h j l)))
