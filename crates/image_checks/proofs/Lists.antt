-- Laws of an image's lists: the tests of their runs are the tests of the rows that their blocks hold. Assumes nothing.
use Prim.Native.Nat.{ℕ, ◌+◌, ◌*◌, ◌/◌, ◌≤◌, ◌<◌}
use native.Mathlib.Nat.{zero-add}
use native.Mathlib.Omega.{arith}
use mathlib.Core.Path.{◌≡◌, refl, sym, ap, ap₂, ◌∙◌}
use mathlib.Core.Bool.{Bool, ◌&&◌, and_assoc}
use mathlib.Core.List.{List, [], ◌∷◌}
use lib.ListN.{length, get_or}
use lib.Dec.{ltb}
use lib.Ieee.{Float}
use Rattle.lists.specs.Lists.{all, up_to, tab}
use Rattle.columns.proofs.Rows.{all_tab, tab_ext}
use Rattle.float.specs.Ranges.{finite?, number?, volume?}
use Rattle.model.specs.Valid.{flag?, named, particle_ok, triangle_ok, edge_ok, root_ok, corners_ok}
use Rattle.mesh.specs.At.{particle_row, triangle_row, edge_row, particles_at, triangles_at, edges_at}
use Rattle.mesh.specs.Widths.{point_columns}
use Rattle.judge.specs.Told.{length?, pair_ok, RootsTold, CornersTold, VolumesTold}
use Rattle.judge.proofs.Wide.{and_told, all_alike}
use Rattle.judge.proofs.Checked.{particle_tested, triangle_tested, edge_tested, root_tested, corners_tested, pair_tested}
use Rattle.image.specs.Words.{word_at_of, number_of, words_from, numbers_from}
use Rattle.image.proofs.InBlocks.{words_long, numbers_long, word_in}
use Rattle.image_checks.specs.Runs.{words_ok, numbers_ok, pairs_ok, threes_ok}
use Rattle.image_checks.proofs.Columns.{numbers_column, words_column, run_two, run_five}

-- ---- particles

module _ (s : List ℕ) (n : ℕ) where
  -- their blocks
  abbrev points : List Float
  points = numbers_from s 4 (point_columns * n)

  abbrev roots : List ℕ
  roots = words_from s (4 + point_columns * n) (2 * n)

  -- the runs, column by column
  abbrev first_six : Bool
  first_six =
      numbers_ok number? s 4 n && numbers_ok number? s (4 + n) n && numbers_ok number? s (4 + 2 * n) n && numbers_ok number? s (4 + 3 * n) n && numbers_ok number? s (4 + 4 * n) n
      && numbers_ok finite? s (4 + 5 * n) n

  abbrev point_runs : Bool
  point_runs = first_six && numbers_ok number? s (4 + 6 * n) n && numbers_ok number? s (4 + 7 * n) n && words_ok flag? s (4 + 9 * n) n

  -- the same as the program asks them: neighbours with one test in one run
  apart : (numbers_ok number? s 4 (5 * n) && numbers_ok finite? s (4 + 5 * n) n && numbers_ok number? s (4 + 6 * n) (2 * n) && words_ok flag? s (4 + 9 * n) n) ≡ point_runs
  apart =
      let last : 4 + 6 * n + n ≡ 4 + 7 * n = omega arith in
      let two : numbers_ok number? s (4 + 6 * n) (2 * n) ≡ (numbers_ok number? s (4 + 6 * n) n && numbers_ok number? s (4 + 7 * n) n) =
      run_two (λ (j : ℕ). number? (number_of (word_at_of s j))) (4 + 6 * n) n ∙ ap (λ (j : ℕ). numbers_ok number? s (4 + 6 * n) n && numbers_ok number? s j n) last in
      ap (λ (t : Bool). t && words_ok flag? s (4 + 9 * n) n)
      (ap₂ (λ (t u : Bool). t && numbers_ok finite? s (4 + 5 * n) n && u) (run_five (λ (j : ℕ). number? (number_of (word_at_of s j))) 4 n) two
      ∙ sym (and_assoc first_six (numbers_ok number? s (4 + 6 * n) n) (numbers_ok number? s (4 + 7 * n) n)))

  -- the columns that they are
  columns_told : point_runs ≡ all particle_ok (tab n (particle_row n n points roots))
  columns_told =
      and_told _ _ _ _ _ _ refl (and_told _ _ _ _ _ _ refl (and_told _ _ _ _ _ _ refl (and_told _ _ _ _ _ _ refl (and_told _ _ _ _ _ _ refl (and_told _ _ _ _ _ _ refl (and_told _ _ _ _ _ _ refl (and_told _ _ _ _ _ _ refl
      (numbers_column s 4 (point_columns * n) 0 4 n (omega arith) (omega arith) number?)
      (numbers_column s 4 (point_columns * n) n (4 + n) n (omega arith) (omega arith) number?))
      (numbers_column s 4 (point_columns * n) (2 * n) (4 + 2 * n) n (omega arith) (omega arith) number?))
      (numbers_column s 4 (point_columns * n) (3 * n) (4 + 3 * n) n (omega arith) (omega arith) number?))
      (numbers_column s 4 (point_columns * n) (4 * n) (4 + 4 * n) n (omega arith) (omega arith) number?))
      (numbers_column s 4 (point_columns * n) (5 * n) (4 + 5 * n) n (omega arith) (omega arith) finite?))
      (numbers_column s 4 (point_columns * n) (6 * n) (4 + 6 * n) n (omega arith) (omega arith) number?))
      (numbers_column s 4 (point_columns * n) (7 * n) (4 + 7 * n) n (omega arith) (omega arith) number?))
      (words_column s (4 + point_columns * n) (2 * n) n (4 + 9 * n) n (omega arith) (omega arith) flag?)
      ∙ all_alike _ _ _ (particle_tested n n points roots) ∙ sym (all_tab particle_ok n (particle_row n n points roots))

  pub particles_told :
      (numbers_ok number? s 4 (5 * n) && numbers_ok finite? s (4 + 5 * n) n && numbers_ok number? s (4 + 6 * n) (2 * n) && words_ok flag? s (4 + 9 * n) n)
      ≡ all particle_ok (particles_at n points roots)
  unfolding particles_at
  particles_told =
      let lp : n ≡ length points / point_columns = omega (arith, numbers_long s 4 (point_columns * n)) in
      let lr : n ≡ length roots / 2 = omega (arith, words_long s (4 + point_columns * n) (2 * n)) in
      apart ∙ columns_told ∙ ap₂ (λ (P R : ℕ). all particle_ok (tab n (particle_row P R points roots))) lp lr

  -- their roots
  pub roots_told : (r : Bool) → r ≡ words_ok (λ (w : ℕ). ltb w n) s (4 + point_columns * n) n → RootsTold n roots r
  unfolding particles_at
  roots_told r e p =
      let P = length p / point_columns in
      let R = length roots / 2 in
      e ∙ words_column s (4 + point_columns * n) (2 * n) 0 (4 + point_columns * n) n (omega arith) (omega arith) (λ (w : ℕ). ltb w n)
      ∙ all_alike _ (λ (k : ℕ). root_ok n (particle_row P R p roots k)) (up_to n) (λ k. ap (λ (m : ℕ). ltb (get_or roots m 0) n) (zero-add k) ∙ root_tested n P R p roots k)
      ∙ sym (all_tab (root_ok n) n (particle_row P R p roots))

-- ---- triangles

module _ (s : List ℕ) (at n : ℕ) where
  -- the block of their volumes
  abbrev volumes : List Float
  volumes = numbers_from s at (2 * n)

  pub volumes_told : (r : Bool) → r ≡ (numbers_ok volume? s at n && numbers_ok number? s (at + n) n) → VolumesTold n volumes r
  unfolding triangles_at
  volumes_told r e corners =
      let C = length corners / 3 in
      let lv : n ≡ length volumes / 2 = omega (arith, numbers_long s at (2 * n)) in
      e
      ∙ and_told _ _ _ _ _ _ refl (numbers_column s at (2 * n) 0 at n (omega arith) (omega arith) volume?) (numbers_column s at (2 * n) n (at + n) n (omega arith) (omega arith) number?)
      ∙ all_alike _ _ _ (triangle_tested C n corners volumes) ∙ sym (all_tab triangle_ok n (triangle_row C n corners volumes))
      ∙ ap (λ (W : ℕ). all triangle_ok (tab n (triangle_row C W corners volumes))) lv

-- ---- edges

module _ (s : List ℕ) (at n : ℕ) where
  -- their blocks
  abbrev ends : List ℕ
  ends = words_from s at (4 * n)

  abbrev lengths : List Float
  lengths = numbers_from s (at + 4 * n) (4 * n)

  -- two runs of two columns each, behind one
  abbrev edge_runs : Bool
  edge_runs =
      words_ok flag? s (at + 2 * n) n && words_ok flag? s (at + 3 * n) n && numbers_ok length? s (at + 4 * n) n && numbers_ok length? s (at + 5 * n) n
      && numbers_ok number? s (at + 6 * n) n && numbers_ok number? s (at + 7 * n) n

  -- tests in pairs
  paired : (a b c d e f x y z : Bool) → x ≡ (a && b) → y ≡ (c && d) → z ≡ (e && f) → (x && y && z) ≡ (a && b && c && d && e && f)
  paired a b c d e f x y z p q r = rw (p, q, r) (sym (and_assoc (a && b && (c && d)) e f) ∙ ap (λ (t : Bool). t && e && f) (sym (and_assoc (a && b) c d)))

  edges_apart : (words_ok flag? s (at + 2 * n) (2 * n) && numbers_ok length? s (at + 4 * n) (2 * n) && numbers_ok number? s (at + 6 * n) (2 * n)) ≡ edge_runs
  edges_apart =
      let three : at + 2 * n + n ≡ at + 3 * n = omega arith in
      let five : at + 4 * n + n ≡ at + 5 * n = omega arith in
      let seven : at + 6 * n + n ≡ at + 7 * n = omega arith in
      paired (words_ok flag? s (at + 2 * n) n) (words_ok flag? s (at + 3 * n) n) (numbers_ok length? s (at + 4 * n) n) (numbers_ok length? s (at + 5 * n) n)
      (numbers_ok number? s (at + 6 * n) n) (numbers_ok number? s (at + 7 * n) n) _ _ _
      (run_two (λ (j : ℕ). flag? (word_at_of s j)) (at + 2 * n) n ∙ ap (λ (j : ℕ). words_ok flag? s (at + 2 * n) n && words_ok flag? s j n) three)
      (run_two (λ (j : ℕ). length? (number_of (word_at_of s j))) (at + 4 * n) n ∙ ap (λ (j : ℕ). numbers_ok length? s (at + 4 * n) n && numbers_ok length? s j n) five)
      (run_two (λ (j : ℕ). number? (number_of (word_at_of s j))) (at + 6 * n) n ∙ ap (λ (j : ℕ). numbers_ok number? s (at + 6 * n) n && numbers_ok number? s j n) seven)

  -- the columns that they are
  edge_columns : edge_runs ≡ all edge_ok (tab n (edge_row n n ends lengths))
  edge_columns =
      and_told _ _ _ _ _ _ refl (and_told _ _ _ _ _ _ refl (and_told _ _ _ _ _ _ refl (and_told _ _ _ _ _ _ refl (and_told _ _ _ _ _ _ refl
      (words_column s at (4 * n) (2 * n) (at + 2 * n) n (omega arith) (omega arith) flag?)
      (words_column s at (4 * n) (3 * n) (at + 3 * n) n (omega arith) (omega arith) flag?))
      (numbers_column s (at + 4 * n) (4 * n) 0 (at + 4 * n) n (omega arith) (omega arith) length?))
      (numbers_column s (at + 4 * n) (4 * n) n (at + 5 * n) n (omega arith) (omega arith) length?))
      (numbers_column s (at + 4 * n) (4 * n) (2 * n) (at + 6 * n) n (omega arith) (omega arith) number?))
      (numbers_column s (at + 4 * n) (4 * n) (3 * n) (at + 7 * n) n (omega arith) (omega arith) number?)
      ∙ all_alike _ _ _ (edge_tested n n ends lengths) ∙ sym (all_tab edge_ok n (edge_row n n ends lengths))

  pub edges_told :
      (words_ok flag? s (at + 2 * n) (2 * n) && numbers_ok length? s (at + 4 * n) (2 * n) && numbers_ok number? s (at + 6 * n) (2 * n)) ≡ all edge_ok (edges_at n ends lengths)
  unfolding edges_at
  edges_told =
      let le : n ≡ length ends / 4 = omega (arith, words_long s at (4 * n)) in
      let ll : n ≡ length lengths / 4 = omega (arith, numbers_long s (at + 4 * n) (4 * n)) in
      edges_apart ∙ edge_columns ∙ ap₂ (λ (E L : ℕ). all edge_ok (tab n (edge_row E L ends lengths))) le ll

-- ---- indices

-- rows that name the same
named_rows : (n t : ℕ) (f g : ℕ → List ℕ) → ((k : ℕ) → k < t → f k ≡ g k) → all (λ (k : ℕ). named n (f k)) (up_to t) ≡ all (λ (k : ℕ). named n (g k)) (up_to t)
named_rows n t f g h = sym (all_tab (named n) t f) ∙ ap (all (named n)) (tab_ext t f g h) ∙ all_tab (named n) t g

pub three_path : {a a' b b' c c' : ℕ} → a ≡ a' → b ≡ b' → c ≡ c' → ◌≡◌ {A = List ℕ} (a ∷ b ∷ c ∷ []) (a' ∷ b' ∷ c' ∷ [])
three_path ea eb ec i = ea i ∷ eb i ∷ ec i ∷ []

pub two_path : {a a' b b' : ℕ} → a ≡ a' → b ≡ b' → ◌≡◌ {A = List ℕ} (a ∷ b ∷ []) (a' ∷ b' ∷ [])
two_path ea eb i = ea i ∷ eb i ∷ []

module _ (n : ℕ) (s : List ℕ) (at t : ℕ) where
  -- the corners of triangles
  pub corners_told : (r : Bool) → r ≡ threes_ok n s at t → CornersTold n t (words_from s at (3 * t)) r
  unfolding triangles_at
  corners_told r e vs =
      let C = words_from s at (3 * t) in
      let W = length vs / 2 in
      let lc : t ≡ length C / 3 = omega (arith, words_long s at (3 * t)) in
      e
      ∙ named_rows n t _ (λ (k : ℕ). get_or C k 0 ∷ get_or C (t + k) 0 ∷ get_or C (2 * t + k) 0 ∷ [])
      (λ k h. three_path (word_in s at (3 * t) k (at + k) (omega arith) refl) (word_in s at (3 * t) (t + k) (at + t + k) (omega arith) (omega arith)) (word_in s at (3 * t) (2 * t + k) (at + t + t + k) (omega arith) (omega arith)))
      ∙ all_alike _ _ _ (corners_tested n t W C vs) ∙ sym (all_tab (corners_ok n) t (triangle_row t W C vs))
      ∙ ap (λ (P : ℕ). all (corners_ok n) (tab t (triangle_row P W C vs))) lc

  -- the ends in rows of a block of N words
  pub pairs_told : (N R : ℕ) → 2 * t ≤ N → t ≡ R → pairs_ok n s at t ≡ all (pair_ok n R (words_from s at N)) (up_to t)
  pairs_told N R h e =
      let S = words_from s at N in
      named_rows n t _ (λ (k : ℕ). get_or S k 0 ∷ get_or S (t + k) 0 ∷ [])
      (λ k l. two_path (word_in s at N k (at + k) (omega arith) refl) (word_in s at N (t + k) (at + t + k) (omega arith) (omega arith)))
      ∙ all_alike _ _ _ (pair_tested n t S) ∙ ap (λ (P : ℕ). all (pair_ok n P S) (up_to t)) e
