-- Laws of one difference as a line of text, written piece by piece. Assumes nothing.
use Prim.Native.Nat.{ℕ, suc, ◌+◌, ◌-◌, ◌<◌, ◌≤◌}
use native.Mathlib.Omega.{arith}
use mathlib.Core.Path.{◌≡◌, refl, sym, ap, ap₂, ◌∙◌, subst}
use mathlib.Core.Bool.{Bool, true, false, ◌&&◌}
use mathlib.Core.List.{List, [], ◌∷◌, ◌++◌, map, append-nil, append_assoc}
use mathlib.Core.Option.{Option}
use lib.Dec.{eqb}
use lib.IntN.{ℤ}
use lib.ListN.{length-append}
use borrow.Author.Tests.{eq-eqb, ne_eqb}
use Rattle.lists.specs.Lists.{pick, each, same_row_of}
use Rattle.lists.proofs.Sifts.{each_append}
use Rattle.listing.specs.Listing.{decimal}
use Rattle.listing.specs.Work.{Appends}
use Rattle.std.specs.Prelude.{Option as Opt, None, Some}
use Rattle.listing.proofs.Appending.{appends_none, appends_then, appends_as}
use Rattle.sheet.proofs.CoordLaws.{coord_low, coord_high}
use Rattle.differences.specs.Differences.{Difference, counts, place, blades, signed, coord_text, texts_of, reading_of, apart, both_readings, count_word, blade_word, word_of, plural_of, line_of}
use Rattle.differences.specs.Work.{same_reading_of, row_by, as_row, Coords, CoordsRead, Lists}
use Rattle.differences.specs.declared.Part.{Part}
use Rattle.differences.specs.declared.Part.TheVariants.{Particles, Triangles, Edges, Boundary}
use Rattle.differences.specs.declared.lines.Lines.{Lines}

-- ---- rows

-- the first fields differ, or the second ones; or they are the same, and the third ones tell
pub first_differs : (p : Part) (x y z u v w : ℕ) → (x ≡ u → ⊥) → false ≡ same_row_of (row_by p x y z) (row_by p u v w)
unfolding same_row_of
first_differs Particles x y z u v w h = rw (ne_eqb x u h)
first_differs Triangles x y z u v w h = rw (ne_eqb x u h)
first_differs Edges x y z u v w h = rw (ne_eqb x u h)
first_differs Boundary x y z u v w h = rw (ne_eqb x u h)

pub second_differs : (p : Part) (x y z u v w : ℕ) → x ≡ u → (y ≡ v → ⊥) → false ≡ same_row_of (row_by p x y z) (row_by p u v w)
unfolding same_row_of
second_differs Particles x y z u v w e h = rw (eq-eqb x u e, ne_eqb y v h)
second_differs Triangles x y z u v w e h = rw (eq-eqb x u e, ne_eqb y v h)
second_differs Edges x y z u v w e h = rw (eq-eqb x u e, ne_eqb y v h)
second_differs Boundary x y z u v w e h = rw (eq-eqb x u e, ne_eqb y v h)

and_true_right : (t : Bool) → t ≡ t && true
and_true_right true = refl
and_true_right false = refl

-- the lists whose entries have three fields
pub three_fields : Part → Bool
three_fields Particles = true
three_fields Triangles = true
three_fields Edges = true
three_fields Boundary = false

third_tells : (p : Part) (x y z u v w : ℕ) → three_fields p ≡ true → x ≡ u → y ≡ v → eqb z w ≡ same_row_of (row_by p x y z) (row_by p u v w)
unfolding same_row_of three_fields
third_tells Particles x y z u v w t e f = rw (eq-eqb x u e, eq-eqb y v f) (and_true_right (eqb z w))
third_tells Triangles x y z u v w t e f = rw (eq-eqb x u e, eq-eqb y v f) (and_true_right (eqb z w))
third_tells Edges x y z u v w t e f = rw (eq-eqb x u e, eq-eqb y v f) (and_true_right (eqb z w))
third_tells Boundary x y z u v w t e f = let k : ◌≡◌ {A = ℕ} 0 1 = cc in absurd (omega arith)

pub three_tell : (p q : Part) (x y z u v w : ℕ) → p ≡ q → three_fields q ≡ true → x ≡ u → y ≡ v → eqb z w ≡ same_row_of (row_by p x y z) (row_by p u v w)
three_tell p q x y z u v w s t e f = third_tells p x y z u v w (ap three_fields s ∙ t) e f

pub three_yes : (three_fields Particles ≡ true) × (three_fields Triangles ≡ true) × (three_fields Edges ≡ true)
unfolding three_fields
three_yes = (refl, refl, refl)

pub two_tell : (p : Part) (x y z u v w : ℕ) → p ≡ Boundary → x ≡ u → y ≡ v → true ≡ same_row_of (row_by p x y z) (row_by p u v w)
unfolding same_row_of
two_tell p x y z u v w s e f = subst (λ (q : Part). true ≡ same_row_of (row_by q x y z) (row_by q u v w)) (sym s) (rw (eq-eqb x u e, eq-eqb y v f))

-- two readings
pub both_rows : (p : Part) (r s : Opt (ℕ × ℕ × ℕ)) (x y z u v w : ℕ) (q : Bool) → r ≡ Some (x, y, z) → s ≡ Some (u, v, w) → q ≡ same_row_of (row_by p x y z) (row_by p u v w) → q ≡ same_reading_of (as_row p r) (as_row p s)
both_rows p r s x y z u v w q e f h = h ∙ sym (ap₂ (λ (a b : Opt (ℕ × ℕ × ℕ)). same_reading_of (as_row p a) (as_row p b)) e f)

-- four fields
pub four_tell : (a b c d x y z w : ℕ) → a ≡ x → b ≡ y → c ≡ z → eqb d w ≡ same_row_of (a ∷ b ∷ c ∷ d ∷ []) (x ∷ y ∷ z ∷ w ∷ [])
unfolding same_row_of
four_tell a b c d x y z w e f g = rw (eq-eqb a x e, eq-eqb b y f, eq-eqb c z g) (and_true_right (eqb d w))

pub four_first : (a b c d x y z w : ℕ) → (a ≡ x → ⊥) → false ≡ same_row_of (a ∷ b ∷ c ∷ d ∷ []) (x ∷ y ∷ z ∷ w ∷ [])
unfolding same_row_of
four_first a b c d x y z w h = rw (ne_eqb a x h)

pub four_second : (a b c d x y z w : ℕ) → a ≡ x → (b ≡ y → ⊥) → false ≡ same_row_of (a ∷ b ∷ c ∷ d ∷ []) (x ∷ y ∷ z ∷ w ∷ [])
unfolding same_row_of
four_second a b c d x y z w e h = rw (eq-eqb a x e, ne_eqb b y h)

pub four_third : (a b c d x y z w : ℕ) → a ≡ x → b ≡ y → (c ≡ z → ⊥) → false ≡ same_row_of (a ∷ b ∷ c ∷ d ∷ []) (x ∷ y ∷ z ∷ w ∷ [])
unfolding same_row_of
four_third a b c d x y z w e f h = rw (eq-eqb a x e, eq-eqb b y f, ne_eqb c z h)

-- ---- fields

three_joined : (a b c : List ℕ) → a ++ (b ++ []) ++ c ≡ a ++ (b ++ (c ++ []))
three_joined a b c = simp (append_assoc, append-nil)

four_joined : (a b c d : List ℕ) → a ++ (b ++ (c ++ [])) ++ d ≡ a ++ (b ++ (c ++ (d ++ [])))
four_joined a b c d = simp (append_assoc, append-nil)

module _ {s s₁ : List ℕ} {at r₁ : Opt ℕ} where
  -- a coordinate that is not below 0, and one that is
  pub coord_plain : (n : ℕ) → n < 1024 → Appends (apart (decimal n)) s at s₁ r₁ → Appends (apart (coord_text n)) s at s₁ r₁
  coord_plain n h a = appends_as a (ap (λ (z : ℤ). apart (signed z)) (sym (coord_low n h)))

  pub coord_minus : {s₂ : List ℕ} {r₂ : Opt ℕ} (n m : ℕ) → 1024 ≤ n → n < 2048 → m ≡ 2048 - n → Appends (32 ∷ 45 ∷ []) s at s₁ r₁ → Appends (decimal m) s₁ r₁ s₂ r₂ → Appends (apart (coord_text n)) s at s₂ r₂
  coord_minus n m l h e a b =
      let f : m ≡ suc (2047 - n) = omega arith in
      appends_as (appends_then a b) (ap (λ (k : ℕ). 32 ∷ 45 ∷ decimal k) f ∙ ap (λ (z : ℤ). apart (signed z)) (sym (coord_high n l h)))

  pub two_fields : {s₂ : List ℕ} {r₂ : Opt ℕ} (x y : List ℕ) → Appends (apart x) s at s₁ r₁ → Appends (apart y) s₁ r₁ s₂ r₂ → Appends (each apart (x ∷ y ∷ [])) s at s₂ r₂
  unfolding each
  two_fields x y a b = appends_as (appends_then a b) (ap (λ (l : List ℕ). apart x ++ apart l) (sym (append-nil y)))

  pub third_field : {s₂ : List ℕ} {r₂ : Opt ℕ} (x y z : List ℕ) → Appends (each apart (x ∷ y ∷ [])) s at s₁ r₁ → Appends (apart z) s₁ r₁ s₂ r₂ → Appends (each apart (x ∷ y ∷ z ∷ [])) s at s₂ r₂
  unfolding each
  third_field x y z a b = appends_as (appends_then a b) (three_joined (apart x) (apart y) (apart z))

  pub fourth_field : {s₂ : List ℕ} {r₂ : Opt ℕ} (x y z w : List ℕ) → Appends (each apart (x ∷ y ∷ z ∷ [])) s at s₁ r₁ → Appends (apart w) s₁ r₁ s₂ r₂ → Appends (each apart (x ∷ y ∷ z ∷ w ∷ [])) s at s₂ r₂
  unfolding each
  fourth_field x y z w a b = appends_as (appends_then a b) (four_joined (apart x) (apart y) (apart z) (apart w))

  -- the fields of a row, by its list
  pub as_part : (p q : Part) (x y z : ℕ) → p ≡ q → Appends (each apart (texts_of q (row_by q x y z))) s at s₁ r₁ → Appends (each apart (texts_of p (row_by p x y z))) s at s₁ r₁
  as_part p q x y z e a = subst (λ (t : Part). Appends (each apart (texts_of t (row_by t x y z))) s at s₁ r₁) (sym e) a

  -- a reading
  pub as_missing : (p : Part) (r : Opt (ℕ × ℕ × ℕ)) → r ≡ None → Appends (32 ∷ 45 ∷ []) s at s₁ r₁ → Appends (each apart (reading_of p (as_row p r))) s at s₁ r₁
  unfolding each
  as_missing p r e a = subst (λ (t : Opt (ℕ × ℕ × ℕ)). Appends (each apart (reading_of p (as_row p t))) s at s₁ r₁) (sym e) a

  pub as_read : (p : Part) (r : Opt (ℕ × ℕ × ℕ)) (x y z : ℕ) → r ≡ Some (x, y, z) → Appends (each apart (texts_of p (row_by p x y z))) s at s₁ r₁ → Appends (each apart (reading_of p (as_row p r))) s at s₁ r₁
  as_read p r x y z e a = subst (λ (t : Opt (ℕ × ℕ × ℕ)). Appends (each apart (reading_of p (as_row p t))) s at s₁ r₁) (sym e) a

  -- a word by its list
  pub as_word : (p q : Part) → p ≡ q → Appends (word_of q) s at s₁ r₁ → Appends (word_of p) s at s₁ r₁
  as_word p q e a = subst (λ (t : Part). Appends (word_of t) s at s₁ r₁) (sym e) a

  pub as_name : (p q : Part) → p ≡ q → Appends (apart (plural_of q)) s at s₁ r₁ → Appends (apart (plural_of p)) s at s₁ r₁
  as_name p q e a = subst (λ (t : Part). Appends (apart (plural_of t)) s at s₁ r₁) (sym e) a

pub coords_of : (p : Part) (x y : ℕ) → p ≡ Particles → Coords p x y → (x < 2048) × (y < 2048)
coords_of p x y e h = subst (λ (t : Part). Coords t x y) e h

pub coords_read : (p : Part) (r : Opt (ℕ × ℕ × ℕ)) (x y z : ℕ) → r ≡ Some (x, y, z) → CoordsRead p r → Coords p x y
coords_read p r x y z e h = subst (λ (t : Opt (ℕ × ℕ × ℕ)). CoordsRead p t) e h

-- ---- lines

-- a word, a second part, two readings with ` /` between them, and the end
pub line_of_lem : {a b x y s s₁ s₂ s₃ s₄ s₅ s₆ : List ℕ} {at r₁ r₂ r₃ r₄ r₅ r₆ : Opt ℕ} → Appends a s at s₁ r₁ → Appends b s₁ r₁ s₂ r₂ → Appends x s₂ r₂ s₃ r₃ → Appends (32 ∷ 47 ∷ []) s₃ r₃ s₄ r₄
    → Appends y s₄ r₄ s₅ r₅ → Appends (10 ∷ []) s₅ r₅ s₆ r₆ → Appends (a ++ b ++ (x ++ (32 ∷ 47 ∷ []) ++ y ++ (10 ∷ []))) s at s₆ r₆
line_of_lem A B X S Y E = appends_as (appends_then (appends_then (appends_then (appends_then (appends_then A B) X) S) Y) E) (simp append_assoc)

-- the same without a second part
pub line_without : {a x y s s₁ s₃ s₄ s₅ s₆ : List ℕ} {at r₁ r₃ r₄ r₅ r₆ : Opt ℕ} → Appends a s at s₁ r₁ → Appends x s₁ r₁ s₃ r₃ → Appends (32 ∷ 47 ∷ []) s₃ r₃ s₄ r₄
    → Appends y s₄ r₄ s₅ r₅ → Appends (10 ∷ []) s₅ r₅ s₆ r₆ → Appends (a ++ (x ++ (32 ∷ 47 ∷ []) ++ y ++ (10 ∷ []))) s at s₆ r₆
line_without A X S Y E = appends_as (appends_then (appends_then (appends_then (appends_then A X) S) Y) E) (simp append_assoc)

-- nothing differs
pub lists_none : (d : Difference) (t : Bool) (s : List ℕ) (l : Lines) → t ≡ true → Lists (pick t [] (d ∷ [])) s l s l
unfolding each
lists_none d t s l e = subst (λ (b : Bool). Lists (pick b [] (d ∷ [])) s l s l) (sym e) (record { text = appends_none s l.at; counted = omega arith })

-- one line more
pub lists_line : (d : Difference) (t : Bool) (s s' : List ℕ) (l l' : Lines) → t ≡ false → Appends (line_of d) s l.at s' l'.at → l'.count ≡ l.count + 1 → Lists (pick t [] (d ∷ [])) s l s' l'
unfolding each
lists_line d t s s' l l' e a n = subst (λ (b : Bool). Lists (pick b [] (d ∷ [])) s l s' l') (sym e) (record { text = appends_as a (sym (append-nil (line_of d))); counted = n })

pub place_line : (p : Part) (k : ℕ) (r s : Option (List ℕ)) → word_of p ++ apart (decimal k) ++ both_readings (reading_of p r) (reading_of p s) ≡ line_of (place p k r s)
unfolding line_of
place_line p k r s = refl

pub count_line : (p : Part) (m n : ℕ) → count_word ++ apart (plural_of p) ++ (apart (decimal m) ++ (32 ∷ 47 ∷ []) ++ apart (decimal n) ++ (10 ∷ [])) ≡ line_of (counts p m n)
unfolding line_of each
count_line p m n =
    ap₂ (λ (u v : List ℕ). count_word ++ apart (plural_of p) ++ (u ++ (32 ∷ 47 ∷ []) ++ v ++ (10 ∷ []))) (sym (append-nil (apart (decimal m)))) (sym (append-nil (apart (decimal n))))

pub blade_line : (a b : List ℕ) → blade_word ++ both_readings (map coord_text a) (map coord_text b) ≡ line_of (blades a b)
unfolding line_of
blade_line a b = refl

-- lines behind lines
pub lists_then : {x y : List Difference} {s s₁ s₂ : List ℕ} {l l₁ l₂ : Lines} → Lists x s l s₁ l₁ → Lists y s₁ l₁ s₂ l₂ → Lists (x ++ y) s l s₂ l₂
lists_then {x} {y} a b = record { text = appends_as (appends_then a.text b.text) (sym (each_append line_of x y)); counted = omega (arith, a.counted, b.counted, length-append x y) }

pub lists_as : {x y : List Difference} {s s₁ : List ℕ} {l l₁ : Lines} → Lists x s l s₁ l₁ → x ≡ y → Lists y s l s₁ l₁
lists_as {x} {y} {s} {s₁} {l} {l₁} a e = subst (λ (d : List Difference). Lists d s l s₁ l₁) e a
