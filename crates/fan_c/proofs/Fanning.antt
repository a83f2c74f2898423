-- Laws of a fan told by numbers: the words of an element, the numbers in its table, the answer in each case, and the reply. Assumes nothing.
use Prim.Native.Nat.{ℕ, zero, suc, ◌+◌, ◌*◌, ◌/◌, ◌≤◌, ◌<◌}
use native.Mathlib.Omega.{arith}
use mathlib.Core.Path.{◌≡◌, refl, sym, ap, ap₂, subst, ◌∙◌}
use mathlib.Core.Bool.{Bool, true, false, ◌&&◌}
use mathlib.Core.List.{List, [], ◌∷◌, map}
use lib.Dec.{eqb}
use lib.Ieee.{Float}
use lib.ListN.{length, get_or, take, length-map, length-take}
use borrow.Author.Tests.{lt-ltb, le-ltb}
use Rattle.lists.specs.Lists.{pick, stands, any, tab}
use Rattle.columns.proofs.Rows.{either_false}
use Rattle.model.specs.Mesh.{Triangle, Edge, Mesh}
use Rattle.model.specs.Elements.{Kind, Element, structural?, kind_by, kind_of, straps_from, fan_of}
use Rattle.model.specs.Calls.{present, refusal}
use Rattle.model.specs.Reads.{Read, refused, value, or_refused}
use Rattle.mesh.specs.At.{mesh_at, triangles_at, edges_at}
use Rattle.mesh.specs.Given.{Given, mesh_of, sizes_fit_of}
use Rattle.mesh.specs.Widths.{point_columns, particle_words}
use Rattle.judge.specs.Checks.{fault_in, fault_of}
use Rattle.judge.proofs.Refusals.{fault_sized}
use Rattle.elements.specs.Table.{elements_in, holding}
use Rattle.elements.proofs.Found.{elements_in_lem, fan_of_lem, kind_triangles}
use Rattle.mesh_tables.specs.Fans.{NumbersRead, triangles_with, straps_with}
use Rattle.mesh_tables.proofs.Accepted.{particles_count}
use Rattle.mesh_tables.proofs.FanLaws.{triangle_holds, strap_holds_of}
use Rattle.arguments.proofs.Judged.{decided, undecided}
use Rattle.image.specs.Words.{word_at_of, words_from}
use Rattle.image.specs.Image.{blocks_in, image_of, image_sized_of}
use Rattle.image.proofs.Loading.{sized_input}
use Rattle.image.proofs.InBlocks.{words_long, numbers_long, word_in}
use Rattle.image_checks.proofs.Lists.{two_path, three_path}
use Rattle.image_checks.proofs.Whole.{counted}
use Rattle.replies.specs.Reply.{Replied}
use Rattle.replies.proofs.Saying.{replied_as, refusal_small}
use Rattle.std.specs.Prelude.{Result, Ok, Err}
use Rattle.std.specs.Result.{IsErrAnd}
use Rattle.std.proofs.lemmas.Result.{err_from_is_err_and}
use Rattle.mesh.specs.Refused.{number_of, answer_in}
use Rattle.mesh.specs.declared.refusals.Refusal.{Refusal}
use Rattle.mesh.specs.declared.refusals.Refusal.TheVariants.{Argument}
use Rattle.mesh.proofs.Refused.{refused_some}
use Rattle.fan_c.specs.Fans.{fan_numbers, fan_call, fan_words, fan_reply}
use Rattle.fan_c.specs.Work.{Listed, Answered, Tellable, found_words}

-- ---- the words

module _ (v : ℕ) (s : List ℕ) (at t i : ℕ) (few : i < t) where
  -- the corners of triangle i
  pub triangle_words : (a b c : ℕ) → a ≡ word_at_of s (at + i) → b ≡ word_at_of s (at + t + i) → c ≡ word_at_of s (at + t + t + i) → stands v (a ∷ b ∷ c ∷ []) ≡ triangle_holds v (words_from s at (3 * t)) i
  triangle_words a b c ea eb ec =
      let C = words_from s at (3 * t) in
      let long : t ≡ length C / 3 = omega (arith, words_long s at (3 * t)) in
      ap (stands v)
      (three_path (ea ∙ word_in s at (3 * t) i (at + i) (omega arith) refl) (eb ∙ word_in s at (3 * t) (t + i) (at + t + i) (omega arith) (omega arith))
      (ec ∙ word_in s at (3 * t) (2 * t + i) (at + t + t + i) (omega arith) (omega arith)))
      ∙ ap (λ (m : ℕ). stands v (get_or C i 0 ∷ get_or C (m + i) 0 ∷ get_or C (2 * m + i) 0 ∷ [])) long

  -- the ends and the structural flag of edge i
  pub strap_words :
      (a b f : ℕ) → a ≡ word_at_of s (at + i) → b ≡ word_at_of s (at + t + i) → f ≡ word_at_of s (at + t + t + i) → (eqb f 1 && stands v (a ∷ b ∷ [])) ≡ strap_holds_of v (words_from s at (4 * t)) i
  strap_words a b f ea eb ef =
      let E = words_from s at (4 * t) in
      let long : t ≡ length E / 4 = omega (arith, words_long s at (4 * t)) in
      ap₂ (λ (m : ℕ) (l : List ℕ). eqb m 1 && stands v l) (ef ∙ word_in s at (4 * t) (2 * t + i) (at + t + t + i) (omega arith) (omega arith))
      (two_path (ea ∙ word_in s at (4 * t) i (at + i) (omega arith) refl) (eb ∙ word_in s at (4 * t) (t + i) (at + t + i) (omega arith) (omega arith)))
      ∙ ap (λ (m : ℕ). eqb (get_or E (2 * m + i) 0) 1 && stands v (get_or E i 0 ∷ get_or E (m + i) 0 ∷ [])) long

-- ---- the elements, without a look for the kind

-- there is no strap where no edge is structural
none_structural : (i : ℕ) (es : List Edge) → any structural? es ≡ false → straps_from i es ≡ []
unfolding straps_from any
none_structural i [] h = refl
none_structural i (e ∷ es) h = let q = either_false (structural? e) (any structural? es) h in rw q.0 (none_structural (suc i) es q.1)

straps_by : (es : List Edge) (t : Bool) → any structural? es ≡ t → elements_in (kind_by [] t) [] es ≡ straps_from 0 es
unfolding elements_in kind_by
straps_by es true h = refl
straps_by es false h = sym (none_structural 0 es h)

-- so the elements without a triangle are the straps
all_straps : (ts : List Triangle) (es : List Edge) → ts ≡ [] → elements_in (kind_by ts (any structural? es)) ts es ≡ straps_from 0 es
all_straps ts es e = rw e (straps_by es (any structural? es) refl)

no_rows : (t : ℕ) (C : List ℕ) (W : List Float) → t ≡ 0 → triangles_at t C W ≡ []
unfolding triangles_at tab
no_rows t C W e = rw e refl

module _ (G : Given) (v : ℕ) where
  -- the fan of v, among triangles and edges
  held_in : fan_of (kind_of (mesh_of G)) (mesh_of G) v ≡ holding v (elements_in (kind_of (mesh_of G)) (mesh_of G).triangles (mesh_of G).edges)
  held_in = fan_of_lem (kind_of (mesh_of G)) (mesh_of G) v ∙ ap (holding v) (elements_in_lem (kind_of (mesh_of G)) (mesh_of G))

  -- where there are triangles
  triangles_fan : (length G.corners / 3 ≡ 0 → ⊥) → fan_of (kind_of (mesh_of G)) (mesh_of G) v ≡ triangles_with v (length G.corners / 3) G.corners G.volumes
  unfolding kind_of mesh_of mesh_at elements_in
  triangles_fan h =
      held_in
      ∙ ap (λ (K : Kind). holding v (elements_in K (mesh_of G).triangles (mesh_of G).edges))
      (sym ((kind_triangles (length G.corners / 3) (length G.ends / 4) G.ends h).is G.corners G.volumes G.lengths))

  -- where there is none
  straps_fan : length G.corners / 3 ≡ 0 → fan_of (kind_of (mesh_of G)) (mesh_of G) v ≡ straps_with v (length G.ends / 4) G.ends G.lengths
  unfolding kind_of mesh_of mesh_at
  straps_fan h =
      held_in
      ∙ ap (holding v)
      (all_straps (triangles_at (length G.corners / 3) G.corners G.volumes) (edges_at (length G.ends / 4) G.ends G.lengths)
      (no_rows (length G.corners / 3) G.corners G.volumes h))

  -- the numbers that were read are those of the fan
  fan_listed : (es : List Element) (r : ℕ) (numbers : List ℕ) → fan_of (kind_of (mesh_of G)) (mesh_of G) v ≡ es → r ≤ 2048 → NumbersRead es r numbers → Listed G v r numbers
  unfolding fan_numbers
  fan_listed es r numbers e few R =
      record {
        few = few;
        front = R.numbers_are ∙ ap (map (λ (x : Element). x.number)) (sym e);
        count = R.count ∙ ap length (sym e) ∙ sym (length-map (fan_of (kind_of (mesh_of G)) (mesh_of G) v) (λ (x : Element). x.number));
      }

-- ---- the table

module _ (s : List ℕ) (v p t e r : ℕ) (numbers : List ℕ) (ep : p ≡ word_at_of s 0) (et : t ≡ word_at_of s 1) (ee : e ≡ word_at_of s 2) where
  -- the blocks that they are read from
  abbrev blocks : Given
  blocks = blocks_in s p t e (word_at_of s 3)

  found_in : Listed blocks v r numbers → Listed (image_of s) v r numbers
  found_in L = subst (λ (G : Given). Listed G v r numbers) (counted s p t e (word_at_of s 3) ep et ee refl) L

  -- the numbers of triangles
  pub triangles_listed : (t ≡ 0 → ⊥) → r ≤ 2048 → ((W : List Float) → NumbersRead (triangles_with v t (words_from s (4 + particle_words * p) (3 * t)) W) r numbers) → Listed (image_of s) v r numbers
  unfolding blocks_in
  triangles_listed h few R =
      let long : length blocks.corners / 3 ≡ t = omega (arith, words_long s (4 + particle_words * p) (3 * t)) in
      found_in
      (fan_listed blocks v _ r numbers
      (triangles_fan blocks v (λ q. h (sym long ∙ q)) ∙ ap (λ (m : ℕ). triangles_with v m blocks.corners blocks.volumes) long) few (R blocks.volumes))

  -- the numbers of straps
  pub straps_listed : t ≡ 0 → r ≤ 2048 → ((L : List Float) → NumbersRead (straps_with v e (words_from s (4 + particle_words * p + 5 * t) (4 * e)) L) r numbers) → Listed (image_of s) v r numbers
  unfolding blocks_in
  straps_listed h few R =
      let none : length blocks.corners / 3 ≡ 0 = omega (arith, words_long s (4 + particle_words * p) (3 * t), h) in
      let long : length blocks.ends / 4 ≡ e = omega (arith, words_long s (4 + particle_words * p + 5 * t) (4 * e)) in
      found_in
      (fan_listed blocks v _ r numbers (straps_fan blocks v none ∙ ap (λ (m : ℕ). straps_with v m blocks.ends blocks.lengths) long) few (R blocks.lengths))

-- ---- the answer of a call

refused_with : (ns : List ℕ) (f : Refusal) (m : ℕ) (table : List ℕ) → number_of f ≡ m → Answered (or_refused m ns) (Err f) table
refused_with ns f zero table e = absurd (refused_some f e)
refused_with ns f (suc m) table e = record { answer = ap refused e; front = refl; few = omega arith }

-- the exit of a `?` answers with the refusal that it hands on
pub handed : {o : Read (List ℕ)} (r : Result ℕ Refusal) (f : Refusal) (table : List ℕ) → IsErrAnd r (λ d. d ≡ f) → Answered o (Err f) table → Answered o r table
handed {o} r f table h A = let p = err_from_is_err_and r h in subst (λ (x : Result ℕ Refusal). Answered o x table) (sym (p.1 ∙ ap Err p.2)) A

found_with : (ns : List ℕ) (m r : ℕ) (table : List ℕ) → m ≡ 0 → r ≤ 2048 → take r table ≡ ns → r ≡ length ns → Answered (or_refused m ns) (Ok r) table
found_with ns zero r table e few front count =
    record { answer = ap value count; front = ap (λ (m : ℕ). take m table) (sym count) ∙ front; few = omega (arith, few, count) }
found_with ns (suc m) r table e few front count = absurd (omega arith)

module _ (s : List ℕ) (h : image_sized_of s ≡ true) (v : ℕ) (table : List ℕ) (code : ℕ) (judged : code ≡ fault_in (mesh_of (image_of s))) where
  -- the fault of the image is that of the input that it is
  faults : code ≡ fault_of (image_of s)
  faults = judged ∙ fault_sized (image_of s) true (sym (sized_input s h ∙ h)) refl

  -- the particles are as many as the image says
  particles : length (mesh_of (image_of s)).particles ≡ word_at_of s 0
  unfolding image_of blocks_in
  particles = particles_count (image_of s) ∙ omega (arith, numbers_long s 4 (point_columns * (word_at_of s 0)))

  -- the refusal of the call
  asked : (o : Result ℕ Refusal) → Answered (or_refused (refusal (sizes_fit_of (image_of s)) (mesh_of (image_of s)) true (present (mesh_of (image_of s)) v)) (fan_numbers (mesh_of (image_of s)) v)) o table
      → Answered (fan_call (image_sized_of s) (mesh_of (image_of s)) v) o table
  unfolding fan_call
  asked o A = subst (λ (b : Bool). Answered (fan_call b (mesh_of (image_of s)) v) o table) (sized_input s h) A

  -- a fault of the mesh
  pub fan_fault : (f : Refusal) → code ≡ number_of f → Answered (fan_call (image_sized_of s) (mesh_of (image_of s)) v) (Err f) table
  fan_fault f e = asked _ (refused_with _ f _ table (sym e ∙ undecided (image_of s) code (present (mesh_of (image_of s)) v) faults (λ z. refused_some f (sym e ∙ z))))

  module _ (none : code ≡ 0) where
    -- where there is none, the particle decides
    decides : (t : Bool) → present (mesh_of (image_of s)) v ≡ t → refusal (sizes_fit_of (image_of s)) (mesh_of (image_of s)) true (present (mesh_of (image_of s)) v) ≡ pick t 0 4
    decides t e = decided (image_of s) (present (mesh_of (image_of s)) v) (sym faults ∙ none) ∙ ap (λ (b : Bool). pick b 0 4) e

    -- an absent particle
    pub fan_absent : (p : ℕ) → p ≡ word_at_of s 0 → p ≤ v → Answered (fan_call (image_sized_of s) (mesh_of (image_of s)) v) (Err Argument) table
    fan_absent p e l =
        asked _ (refused_with _ Argument _ table (sym (decides false (le-ltb v (length (mesh_of (image_of s)).particles) (omega (arith, particles, e, l))))))

    -- the fan
    pub fan_found : (p r : ℕ) → p ≡ word_at_of s 0 → v < p → Listed (image_of s) v r table → Answered (fan_call (image_sized_of s) (mesh_of (image_of s)) v) (Ok r) table
    fan_found p r e l L =
        asked _ (found_with _ _ r table (decides true (lt-ltb v (length (mesh_of (image_of s)).particles) (omega (arith, particles, e, l)))) L.few L.front L.count)

-- ---- the reply

-- an answer is told by its words
words_told : Read ℕ → List ℕ → Read (List ℕ)
words_told (refused n) table = refused n
words_told (value n) table = value (n ∷ take n table)

told_by : (r : Result ℕ Refusal) (table : List ℕ) → found_words r table ≡ words_told (answer_in r) table
unfolding words_told
told_by (Ok n) table = refl
told_by (Err e) table = refl

found_told : (o : Read (List ℕ)) (r : Result ℕ Refusal) (table : List ℕ) → Answered o r table → found_words r table ≡ fan_words o
unfolding words_told
found_told (refused n) r table A = told_by r table ∙ ap (λ (a : Read ℕ). words_told a table) A.answer
found_told (value ns) r table A = told_by r table ∙ ap (λ (a : Read ℕ). words_told a table) A.answer ∙ ap (λ (l : List ℕ). value (length ns ∷ l)) A.front

-- what it says is small and in its place
in_place : Read ℕ → ℕ → Type 0
in_place (refused n) places = n < 256
in_place (value n) places = (n ≤ places) × (n ≤ 2048)

tellable_by : (r : Result ℕ Refusal) (places : ℕ) → in_place (answer_in r) places → Tellable r places
unfolding in_place
tellable_by (Ok n) places h = h
tellable_by (Err e) places h = h

tellable_or : (m : ℕ) (ns : List ℕ) (r : Result ℕ Refusal) (table : List ℕ) (places : ℕ) → m < 256 → 2048 ≤ places → Answered (or_refused m ns) r table → Tellable r places
unfolding in_place
tellable_or zero ns r table places h room A = tellable_by r places (subst (λ (a : Read ℕ). in_place a places) (sym A.answer) (omega (arith, A.few), A.few))
tellable_or (suc m) ns r table places h room A = tellable_by r places (subst (λ (a : Read ℕ). in_place a places) (sym A.answer) h)

pub fan_tellable : (z : Bool) (M : Mesh) (v : ℕ) (r : Result ℕ Refusal) (table : List ℕ) (places : ℕ) → 2048 ≤ places → Answered (fan_call z M v) r table → Tellable r places
unfolding fan_call
fan_tellable z M v r table places room A = tellable_or (refusal z M true (present M v)) _ r table places (refusal_small z M true (present M v)) room A

pub fan_replied : (s : List ℕ) (v : ℕ) (a : Result ℕ Refusal) (table : List ℕ) (lent r : ℕ) (out : List ℕ) → Answered (fan_call (image_sized_of s) (mesh_of (image_of s)) v) a table
    → Replied (found_words a table) lent r out → Replied (fan_reply s v) lent r out
unfolding fan_reply
fan_replied s v a table lent r out A h = replied_as (found_words a table) _ lent r out (found_told _ a table A) h

pub fan_unsized : (s : List ℕ) (v : ℕ) (lent r : ℕ) (out : List ℕ) (z : Bool) → z ≡ image_sized_of s → z ≡ false → Replied (refused 1) lent r out → Replied (fan_reply s v) lent r out
unfolding fan_reply fan_call refusal
fan_unsized s v lent r out z e f h = replied_as (refused 1) _ lent r out (ap (λ (b : Bool). fan_words (fan_call b (mesh_of (image_of s)) v)) (sym f ∙ e)) h

-- a case under another name
pub told_small : (a b : Result ℕ Refusal) (places : ℕ) → a ≡ b → Tellable a places → Tellable b places
told_small a b places e h = subst (λ (o : Result ℕ Refusal). Tellable o places) e h

pub told_as : (a b : Result ℕ Refusal) (table : List ℕ) (lent r : ℕ) (out : List ℕ) → a ≡ b → Replied (found_words b table) lent r out → Replied (found_words a table) lent r out
told_as a b table lent r out e h = subst (λ (o : Result ℕ Refusal). Replied (found_words o table) lent r out) (sym e) h

-- a front is no longer than it is asked to be
pub front_few : (n : ℕ) (l : List ℕ) → n ≤ 2048 → length (take n l) ≤ 2049
front_few n l h = omega (arith, length-take n l)
