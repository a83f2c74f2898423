-- Laws of the boundary of an insertion: one entry that grows, and all entries in turn. Assumes nothing.
use Prim.Native.Nat.{ℕ, ◌+◌, ◌*◌, ◌/◌, ◌<◌, ◌≤◌, zero-le}
use native.Mathlib.Omega.{arith}
use mathlib.Core.Path.{◌≡◌, refl, sym, ap, ap₂, ◌∙◌, subst}
use mathlib.Core.Bool.{Bool, false, ◌&&◌}
use mathlib.Core.List.{List, [], ◌∷◌, ◌++◌, map, append-nil}
use lib.ListN.{length, get_or, set, length-set, length-append}
use lib.Seq.{set-get_or}
use lib.Dec.{eqb}
use borrow.Author.Tests.{eq-eqb, ne_eqb, lt-leb, leb-false}
use Rattle.lists.specs.Lists.{same_row_of, tab, each}
use Rattle.lists.proofs.Truths.{and_end}
use Rattle.lists.proofs.Stores.{tab_length, tab_at}
use Rattle.lists.proofs.Rows.{rows_store, rows_push}
use Rattle.columns.specs.Block.{cell}
use Rattle.columns.proofs.Cells.{store_same, store_row, store_col, col_0, col_1}
use Rattle.model.specs.Mesh.{Side}
use Rattle.model.specs.Cut.{shortened, appended}
use Rattle.mesh.specs.At.{side_row, boundary_at}
use Rattle.work.specs.Rows.{GrownTo, Between}
use Rattle.std.specs.Prelude.{Option, None, Some}
use Rattle.work.proofs.Grows.{grown_all}
use Rattle.insert.specs.Sides.{EntryGrown, SidesInserted}
use Rattle.insert.proofs.Passes.{passed, passed_start, passed_end, passed_step, passed_long}

-- ---- rows of the outline

abbrev entry_at : List ℕ → ℕ → Side
entry_at s j = side_row (length s / 2) s j

-- the entry that is read past the end
abbrev blank_side : Side
blank_side = record { corners = 0 ∷ 0 ∷ [] }

pub sides_many : (n : ℕ) (s : List ℕ) → length (boundary_at n s) ≡ n
unfolding boundary_at
sides_many n s = tab_length n (entry_at s)

sides_get : (n : ℕ) (s : List ℕ) (j : ℕ) → j < n → get_or (boundary_at n s) j blank_side ≡ entry_at s j
unfolding boundary_at
sides_get n s j l = tab_at n (entry_at s) j blank_side l

-- an entry as the program reads it
entry_read : (s : List ℕ) (i : ℕ) → ◌≡◌ {A = Side} (record { corners = get_or s i 0 ∷ (get_or s (length s / 2 + i) 0) ∷ [] }) (entry_at s i)
entry_read s i = λ z. record { corners = sym (col_0 0 (length s / 2) s i) z ∷ sym (col_1 0 (length s / 2) s i) z ∷ [] }

-- ---- three stores

module _ (i end from to m : ℕ) (s : List ℕ) (inside : i < m) (wide : m < length s / 2) where
  abbrev R : ℕ
  R = length s / 2

  s₁ : List ℕ
  s₁ = set s (1 * (length s / 2) + i) end

  s₂ : List ℕ
  unfolding s₁
  s₂ = set s₁ (0 * (length s / 2) + m) from

  s₃ : List ℕ
  unfolding s₁ s₂
  s₃ = set s₂ (1 * (length s / 2) + m) to

  long₃ : length s₃ ≡ length s
  unfolding s₁ s₂ s₃
  long₃ = simp length-set

  -- the rows below m are as after the first store
  lower : (c k : ℕ) → k < m → cell 0 R s₃ c k ≡ cell 0 R s₁ c k
  unfolding s₁ s₂ s₃
  lower c k h = store_row 0 R s₂ 1 m to c k (omega arith) wide (λ q. omega arith) ∙ store_row 0 R s₁ 0 m from c k (omega arith) wide (λ q. omega arith)

  other : (c k : ℕ) → k < R → (k ≡ i → ⊥) → cell 0 R s₁ c k ≡ cell 0 R s c k
  unfolding s₁
  other c k h n = store_row 0 R s 1 i end c k h (omega arith) n

  grown_list : tab (m + 1) (side_row R s₃) ≡ set (tab m (side_row R s)) i (record { corners = get_or s i 0 ∷ end ∷ [] }) ++ (record { corners = from ∷ to ∷ [] } ∷ [])
  unfolding s₁ s₂ s₃
  grown_list =
      rows_push m (side_row R s₁) (side_row R s₃) (record { corners = from ∷ to ∷ [] }) (λ k h z. record { corners = lower 0 k h z ∷ lower 1 k h z ∷ [] })
      (λ z.
      record {
        corners = (store_col 0 R s₂ 1 m to 0 m wide wide (λ q. omega arith) ∙ store_same 0 R s₁ 0 m from (simp length-set (omega arith))) z ∷ store_same 0 R s₂ 1 m to (simp length-set (omega arith)) z ∷ [];
      })
      ∙ ap (λ (l : List Side). l ++ (record { corners = from ∷ to ∷ [] } ∷ []))
      (rows_store m (side_row R s) (side_row R s₁) i (record { corners = get_or s i 0 ∷ end ∷ [] }) (λ k h n z. record { corners = other 0 k (omega arith) n z ∷ other 1 k (omega arith) n z ∷ [] })
      (λ z.
      record {
        corners = (store_col 0 R s 1 i end 0 i (omega arith) (omega arith) (λ q. omega arith) ∙ col_0 0 R s i) z ∷ store_same 0 R s 1 i end (omega arith) z ∷ [];
      }))

  grew_cols : (room : ℕ) → m < room → EntryGrown (record { corners = get_or s i 0 ∷ end ∷ [] }) (record { corners = from ∷ to ∷ [] } ∷ []) i m room s s₃ (Some (m + 1))
  unfolding boundary_at
  grew_cols room h =
      record {
        sides = grown_all (m + 1) room _ (λ q. boundary_at q s₃) (sides_many (m + 1) s₃) (omega arith) (ap (λ (z : ℕ). tab (m + 1) (side_row (z / 2) s₃)) long₃ ∙ grown_list);
        others =
            λ j l n.
            ap (λ (z : ℕ). side_row (z / 2) s₃ j) long₃
            ∙ (λ z. record { corners = ((lower 0 j l ∙ other 0 j (omega arith) n) z) ∷ ((lower 1 j l ∙ other 1 j (omega arith) n) z) ∷ [] });
        between = (omega arith, omega arith);
      }

  -- as the program writes the places
  pub grew_one : (room : ℕ) → m < room
      → EntryGrown (record { corners = get_or s i 0 ∷ end ∷ [] }) (record { corners = from ∷ to ∷ [] } ∷ []) i m room s (set (set (set s (length s / 2 + i) end) m from) (length s / 2 + m) to) (Some (m + 1))
  unfolding s₁ s₂ s₃
  grew_one room h =
      let e₀ : 0 * (length s / 2) + m ≡ m = omega arith in
      let e₁ : 1 * (length s / 2) + i ≡ length s / 2 + i = omega arith in
      let e₂ : 1 * (length s / 2) + m ≡ length s / 2 + m = omega arith in
      subst (λ (z : List ℕ). EntryGrown (record { corners = get_or s i 0 ∷ end ∷ [] }) (record { corners = from ∷ to ∷ [] } ∷ []) i m room s z (Some (m + 1)))
      (ap₂ (λ (x y : ℕ). set (set (set s x end) y from) (1 * (length s / 2) + m) to) e₁ e₀ ∙ ap (λ (x : ℕ). set (set (set s (length s / 2 + i) end) m from) x to) e₂) (grew_cols room h)

-- no room for one more
pub grew_none : (new : Side) (more : Side) (i m room : ℕ) (s : List ℕ) → m ≡ room → EntryGrown new (more ∷ []) i m room s s None
grew_none new more i m room s e =
    record {
      sides = lt-leb _ room (rw (length-append, length-set) (omega (arith, sides_many m s)));
      others = λ j l n. refl;
      between = zero-le;
    }

-- ---- one entry

entry_as : {new new' : Side} {more more' : List Side} (i m room : ℕ) (s s' : List ℕ) (r : Option ℕ) → new ≡ new' → more ≡ more' → EntryGrown new more i m room s s' r → EntryGrown new' more' i m room s s' r
entry_as {new} {new'} {more} {more'} i m room s s' r e d G =
    subst (λ (x : Side). EntryGrown x more' i m room s s' r) e (subst (λ (l : List Side). EntryGrown new l i m room s s' r) d G)

module _ (x y a b : ℕ) where
  pub both_not_first : (x ≡ a → ⊥) → eqb x a && eqb y b ≡ false
  both_not_first n = rw (ne_eqb x a n)

  pub both_not_second : x ≡ a → (y ≡ b → ⊥) → eqb x a && eqb y b ≡ false
  both_not_second e n = rw (eq-eqb x a e, ne_eqb y b n)

-- an entry of two corners is (a, b) where both are
same_two : (x y a b : ℕ) → same_row_of (x ∷ y ∷ []) (a ∷ b ∷ []) ≡ eqb x a && eqb y b
unfolding same_row_of
same_two x y a b = ap (λ (t : Bool). eqb x a && t) (and_end (eqb y b))

module _ (x y a b p q : ℕ) where
  short_first : x ≡ a → y ≡ b → ◌≡◌ {A = Side} (record { corners = x ∷ p ∷ [] }) (shortened a b p q (record { corners = x ∷ y ∷ [] }))
  unfolding shortened
  short_first e d = rw (same_two x y a b, eq-eqb x a e, eq-eqb y b d) (λ z. record { corners = e z ∷ p ∷ [] })

  app_first : x ≡ a → y ≡ b → ◌≡◌ {A = List Side} (record { corners = q ∷ b ∷ [] } ∷ []) (appended a b p q (record { corners = x ∷ y ∷ [] }))
  unfolding appended
  app_first e d = rw (same_two x y a b, eq-eqb x a e, eq-eqb y b d)

  module _ (n : eqb x a && eqb y b ≡ false) where
    short_second : x ≡ b → y ≡ a → ◌≡◌ {A = Side} (record { corners = x ∷ q ∷ [] }) (shortened a b p q (record { corners = x ∷ y ∷ [] }))
    unfolding shortened
    short_second e d = rw (same_two x y a b, n, same_two x y b a, eq-eqb x b e, eq-eqb y a d) (λ z. record { corners = e z ∷ q ∷ [] })

    app_second : x ≡ b → y ≡ a → ◌≡◌ {A = List Side} (record { corners = p ∷ a ∷ [] } ∷ []) (appended a b p q (record { corners = x ∷ y ∷ [] }))
    unfolding appended
    app_second e d = rw (same_two x y a b, n, same_two x y b a, eq-eqb x b e, eq-eqb y a d)

    short_none : eqb x b && eqb y a ≡ false → ◌≡◌ {A = Side} (record { corners = x ∷ y ∷ [] }) (shortened a b p q (record { corners = x ∷ y ∷ [] }))
    unfolding shortened
    short_none k = rw (same_two x y a b, n, same_two x y b a, k)

    app_none : eqb x b && eqb y a ≡ false → ◌≡◌ {A = List Side} [] (appended a b p q (record { corners = x ∷ y ∷ [] }))
    unfolding appended
    app_none k = rw (same_two x y a b, n, same_two x y b a, k)

module _ (i a b p q m room : ℕ) (s s' : List ℕ) (r : Option ℕ) where
  abbrev first : ℕ
  first = get_or s i 0

  abbrev second : ℕ
  second = get_or s (length s / 2 + i) 0

  -- (a, b)
  pub entry_along : first ≡ a → second ≡ b → EntryGrown (record { corners = get_or s i 0 ∷ p ∷ [] }) (record { corners = q ∷ b ∷ [] } ∷ []) i m room s s' r
      → EntryGrown (shortened a b p q (entry_at s i)) (appended a b p q (entry_at s i)) i m room s s' r
  entry_along e d G =
      entry_as i m room s s' r (short_first first second a b p q e d ∙ ap (shortened a b p q) (entry_read s i)) (app_first first second a b p q e d ∙ ap (appended a b p q) (entry_read s i)) G

  -- (b, a)
  pub entry_against : eqb first a && eqb second b ≡ false → first ≡ b → second ≡ a → EntryGrown (record { corners = get_or s i 0 ∷ q ∷ [] }) (record { corners = p ∷ a ∷ [] } ∷ []) i m room s s' r
      → EntryGrown (shortened a b p q (entry_at s i)) (appended a b p q (entry_at s i)) i m room s s' r
  entry_against n e d G =
      entry_as i m room s s' r (short_second first second a b p q n e d ∙ ap (shortened a b p q) (entry_read s i)) (app_second first second a b p q n e d ∙ ap (appended a b p q) (entry_read s i)) G

-- another entry
pub entry_other : (i a b p q m room : ℕ) (s : List ℕ) → i < m → m ≤ room → eqb (get_or s i 0) a && eqb (get_or s (length s / 2 + i) 0) b ≡ false → eqb (get_or s i 0) b && eqb (get_or s (length s / 2 + i) 0) a ≡ false
    → EntryGrown (shortened a b p q (entry_at s i)) (appended a b p q (entry_at s i)) i m room s s (Some m)
entry_other i a b p q m room s l h n k =
    let x = get_or s i 0 in
    let y = get_or s (length s / 2 + i) 0 in
    entry_as i m room s s (Some m) (short_none x y a b p q n k ∙ ap (shortened a b p q) (entry_read s i)) (app_none x y a b p q n k ∙ ap (appended a b p q) (entry_read s i))
    (record {
      sides =
          grown_all m room _ (λ z. boundary_at z s) (sides_many m s) h
          (sym (set-get_or (boundary_at m s) i blank_side) ∙ ap (λ (z : Side). set (boundary_at m s) i z) (sides_get m s i l ∙ sym (entry_read s i)) ∙ sym (append-nil _));
      others = λ j g d. refl;
      between = (omega arith, h);
    })

-- ---- all entries in turn

-- at the head of the loop: the first i entries are done, what they give stands behind the entries, and the rest is as it was
pub record SidePassing (a b p q n room : ℕ) (s₀ s : List ℕ) (rows i : ℕ) : Type 0 where
  pub sides : boundary_at rows s ≡ passed (shortened a b p q) (appended a b p q) i (boundary_at n s₀)
  pub ahead : (j : ℕ) → i ≤ j → j < n → entry_at s j ≡ entry_at s₀ j
  pub inside : i ≤ n
  pub least : n ≤ rows
  pub most : rows ≤ room
  pub long : length s ≡ length s₀

module _ (a b p q n room : ℕ) (s₀ : List ℕ) where
  pub side_start : n ≤ room → SidePassing a b p q n room s₀ s₀ n 0
  side_start h =
      record { sides = passed_start (shortened a b p q) (appended a b p q) (boundary_at n s₀); ahead = λ j l k. refl; inside = zero-le; least = omega arith; most = h; long = refl }

  module _ (s : List ℕ) (rows i : ℕ) (P : SidePassing a b p q n room s₀ s rows i) where
    pub side_done : n ≤ i → SidesInserted a b p q n room s₀ s (Some rows)
    side_done h =
        let low = P.inside in
        let all : i ≡ length (boundary_at n s₀) = omega (arith, sides_many n s₀) in
        record {
          sides =
              grown_all rows room _ (λ z. boundary_at z s) (sides_many rows s) P.most
              (P.sides ∙ ap (λ (z : ℕ). passed (shortened a b p q) (appended a b p q) z (boundary_at n s₀)) all ∙ passed_end (shortened a b p q) (appended a b p q) (boundary_at n s₀));
          between = (P.least, P.most);
        }

    module _ (l : i < n) (r : Option ℕ) (s' : List ℕ) (S : EntryGrown (shortened a b p q (entry_at s i)) (appended a b p q (entry_at s i)) i rows room s s' r) where
      more : set (boundary_at rows s) i (shortened a b p q (entry_at s i)) ++ appended a b p q (entry_at s i) ≡ passed (shortened a b p q) (appended a b p q) (i + 1) (boundary_at n s₀)
      more =
          let B = boundary_at n s₀ in
          let row : entry_at s i ≡ get_or B i blank_side = P.ahead i (omega arith) l ∙ sym (sides_get n s₀ i l) in
          ap₂ (λ (t : List Side) (z : Side). set t i (shortened a b p q z) ++ appended a b p q z) P.sides row
          ∙ passed_step (shortened a b p q) (appended a b p q) B i blank_side (omega (arith, sides_many n s₀))

      pub side_lacks : r ≡ None → SidesInserted a b p q n room s₀ s' None
      side_lacks e =
          let B = boundary_at n s₀ in
          let lacks = subst (λ (z : Option ℕ). GrownTo z room (set (boundary_at rows s) i (shortened a b p q (entry_at s i)) ++ appended a b p q (entry_at s i)) (λ m. boundary_at m s')) e S.sides in
          let low = leb-false _ room lacks in
          let is = ap length more in
          record {
            sides = lt-leb (length (map (shortened a b p q) B ++ each (appended a b p q) B)) room (omega (arith, low, is, passed_long (shortened a b p q) (appended a b p q) (i + 1) B (omega (arith, sides_many n s₀))));
            between = zero-le;
          }

      pub side_step : (m : ℕ) → r ≡ Some m → length s' ≡ length s → SidePassing a b p q n room s₀ s' m (i + 1)
      side_step m e k =
          let between = subst (Between rows room) e S.between in
          let low = P.least in
          record {
            sides =
                (subst (λ (z : Option ℕ). GrownTo z room (set (boundary_at rows s) i (shortened a b p q (entry_at s i)) ++ appended a b p q (entry_at s i)) (λ j. boundary_at j s')) e S.sides).2 ∙ more;
            ahead = λ j g h. S.others j (omega arith) (λ z. omega arith) ∙ P.ahead j (omega arith) h;
            inside = omega arith;
            least = omega (arith, between.0);
            most = between.1;
            long = k ∙ P.long;
          }
