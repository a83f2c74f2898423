-- Laws of a question beside the sides of a fan: a capped list of them asks the same. Assumes nothing.
use Prim.Native.Nat.{ℕ, zero, suc, ◌+◌, ◌/◌, ◌≤◌, ◌<◌, zero-le}
use native.Mathlib.Numerals.{add-one}
use native.Mathlib.Omega.{arith}
use mathlib.Core.Path.{◌≡◌, refl, sym, ap, subst, ◌∙◌}
use mathlib.Core.Logic.{◌⊎◌, inl, inr, ⊎_elim}
use mathlib.Core.Bool.{Bool, true, false, not, ◌&&◌}
use mathlib.Core.List.{List, [], ◌∷◌, ◌++◌}
use lib.ListN.{length, get_or, take, set, length-set}
use lib.Dec.{ltb}
use lib.Seq.{take-suc, take-length, length-take-le}
use borrow.Author.Tests.{ne_eqb}
use Rattle.lists.specs.Lists.{pick, stands, all}
use Rattle.lists.proofs.Sifts.{sift_length}
use Rattle.columns.proofs.Sweep.{front_grows}
use Rattle.mesh.specs.Refused.{answer_in}
use Rattle.model.specs.Mesh.{Mesh}
use Rattle.model.specs.Valid.{numbers_fit_of, indices_fit_of}
use Rattle.model.specs.Elements.{Kind, Triangles, Straps, Nothing, Element, kind_of, elements_of, fan_of}
use Rattle.model.specs.Calls.{sides_ok, present, refusal}
use Rattle.model.specs.Split.{opening_of}
use Rattle.model.specs.Pieces.{opens_without_confetti_of}
use Rattle.model.specs.Reads.{or_refused, opens_call}
use Rattle.mesh.specs.At.{triangle_row, triangles_at, mesh_at}
use Rattle.mesh.specs.Given.{Given, mesh_of}
use Rattle.judge.proofs.Joined.{Sized, sizes_told}
use Rattle.mesh.proofs.Lists.{edges_length}
use Rattle.lists.proofs.Stores.{tab_length}
use Rattle.elements.proofs.Filling.{triangles_length, straps_length}
use Rattle.std.specs.Prelude.{Result, Ok, Err}
use Rattle.mesh.specs.declared.refusals.Refusal.{Refusal}
use Rattle.image.specs.Image.{image_of, image_sized_of}
use Rattle.reading_replies.specs.Replies.{truth_words}
use Rattle.reading_replies.specs.Given.{truth_reply, SmallCode}
use Rattle.reading_c.specs.Capped.{Capped}
use Rattle.replies.proofs.Saying.{refusal_small}
use Rattle.image.proofs.Loading.{sized_input}

-- ---- bytes as numbers

-- at the head of the loop: the first i places hold the first i bytes
pub record Copying (b : List ℕ) (n : ℕ) (s₀ s : List ℕ) (i : ℕ) : Type 0 where
  pub front : take i s ≡ take i b
  pub long : length s ≡ length s₀
  pub below : i ≤ n

pub copy_start : (b : List ℕ) (n : ℕ) (s : List ℕ) → Copying b n s s 0
copy_start b n s = record { front = refl; long = refl; below = zero-le }

pub copy_more : (b : List ℕ) (n : ℕ) (s₀ s : List ℕ) (i x : ℕ) → Copying b n s₀ s i → i < n → n ≤ length b → n ≤ length s₀ → x ≡ get_or b i 0 → Copying b n s₀ (set s i x) (i + 1)
copy_more b n s₀ s i x v h g k e =
    let next : take (i + 1) b ≡ take i b ++ (get_or b i 0 ∷ []) = rw (add-one i) (take-suc b i 0 (omega arith)) in
    record {
      front = front_grows s (take i b) i x v.front (omega (arith, v.long)) ∙ ap (λ (y : ℕ). take i b ++ (y ∷ [])) e ∙ sym next;
      long = length-set s i x ∙ v.long;
      below = omega arith;
    }

pub copy_done : (b : List ℕ) (n : ℕ) (s₀ s : List ℕ) (i : ℕ) → Copying b n s₀ s i → n ≤ i → take n s ≡ take n b
copy_done b n s₀ s i v h =
    let e : i ≡ n = omega (arith, v.below) in
    subst (λ (k : ℕ). take k s ≡ take k b) e v.front

-- a capped number is within both
pub capped_within : {n most r : ℕ} → Capped n most r → r ≤ n
capped_within c = ⊎_elim (λ y. omega (arith, y.0)) (λ y. omega (arith, y.0, y.1)) c

pub capped_most : {n most r : ℕ} → Capped n most r → r ≤ most
capped_most c = ⊎_elim (λ y. omega (arith, y.0, y.1)) (λ y. omega (arith, y.0)) c

-- ---- a fan is small

few_elements : (K : Kind) (M : Mesh) → length M.triangles ≤ 1024 → length M.edges ≤ 2048 → length (elements_of K M) ≤ 2048
unfolding elements_of
few_elements Triangles M t e = let h = triangles_length 0 M.triangles in omega arith
few_elements Straps M t e = let h = straps_length 0 M.edges in omega arith
few_elements Nothing M t e = omega arith

triangles_count : (G : Given) → length (mesh_of G).triangles ≡ length G.corners / 3
unfolding mesh_of mesh_at triangles_at
triangles_count G = tab_length (length G.corners / 3) (triangle_row (length G.corners / 3) (length G.volumes / 2) G.corners G.volumes)

edges_count : (G : Given) → length (mesh_of G).edges ≡ length G.ends / 4
unfolding mesh_of mesh_at
edges_count G = edges_length (length G.ends / 4) G.ends G.lengths

-- a fan of an image that has the sizes of a mesh
pub fan_few : (s : List ℕ) (v : ℕ) → image_sized_of s ≡ true → length (fan_of (kind_of (mesh_of (image_of s))) (mesh_of (image_of s)) v) ≤ 2048
unfolding fan_of
fan_few s v h =
    let G = image_of s in
    let M = mesh_of G in
    let z : Sized (length G.points) (length G.roots) (length G.corners) (length G.volumes) (length G.ends) (length G.lengths) (length G.outline) = sizes_told _ _ _ _ _ _ _ (sized_input s h ∙ h) in
    let f = few_elements (kind_of M) M (omega (arith, triangles_count G, z.few_triangles)) (omega (arith, edges_count G, z.few_edges)) in
    let l = sift_length (λ (e : Element). stands v e.corners) (elements_of (kind_of M) M) in
    omega (arith, f, l)

-- ---- too many sides are bad sides

and_wrong : (a b : Bool) → b ≡ false → a && b ≡ false
and_wrong true b h = h
and_wrong false b h = refl

sides_wrong : (M : Mesh) (v : ℕ) (t : List ℕ) → length (fan_of (kind_of M) M v) ≤ 2048 → 2049 ≤ length t → sides_ok M v t ≡ false
unfolding sides_ok
sides_wrong M v t f h = and_wrong (present M v && all (λ s. ltb s 2) t) _ (ne_eqb (length t) (length (fan_of (kind_of M) M v)) (λ e. omega (arith, e, f, h)))

-- a refusal doesn't look at the value
pub refused_either : {A : Type 0} (z : Bool) (M : Mesh) (x y : A) → or_refused (refusal z M true false) x ≡ or_refused (refusal z M true false) y
unfolding refusal
refused_either {A} z M x y = by (not z) (not (numbers_fit_of M && true)) (not (indices_fit_of M))
  where
    by : (a b c : Bool) → or_refused (pick a 1 (pick b 2 (pick c 3 4))) x ≡ or_refused (pick a 1 (pick b 2 (pick c 3 4))) y
    by true b c = refl
    by false true c = refl
    by false false true = refl
    by false false false = refl

-- a capped list of sides is all of them, or both lists are bad sides
pub capped_sides : (s : List ℕ) (v r : ℕ) (sides t : List ℕ) → image_sized_of s ≡ true → Capped (length sides) 2049 r → t ≡ take r sides
    → (t ≡ sides) ⊎ ((sides_ok (mesh_of (image_of s)) v t ≡ false) × (sides_ok (mesh_of (image_of s)) v sides ≡ false))
capped_sides s v r sides t h c e =
    ⊎_elim
    (λ y. inl (e ∙ ap (λ (m : ℕ). take m sides) y.0 ∙ take-length sides))
    (λ y.
    let l : length t ≡ r = ap length e ∙ length-take-le r sides (omega (arith, y.0, y.1)) in
    let f = fan_few s v h in
    inr (sides_wrong (mesh_of (image_of s)) v t f (omega (arith, l, y.0)), sides_wrong (mesh_of (image_of s)) v sides f (omega (arith, y.1))))
    c

-- ---- whether sides open a particle

opens_refused : (z : Bool) (M : Mesh) (v : ℕ) (t sides : List ℕ) (min : ℕ) → sides_ok M v t ≡ false → sides_ok M v sides ≡ false → opens_call z M v t min ≡ opens_call z M v sides min
unfolding opens_call
opens_refused z M v t sides min e f =
    let x : Bool = opens_without_confetti_of (kind_of M) M min (opening_of (kind_of M) M v t) in
    let y : Bool = opens_without_confetti_of (kind_of M) M min (opening_of (kind_of M) M v sides) in
    ap (λ (b : Bool). or_refused (refusal z M true b) x) e ∙ refused_either z M x y ∙ sym (ap (λ (b : Bool). or_refused (refusal z M true b) y) f)

pub opens_capped : (s : List ℕ) (v r : ℕ) (sides t : List ℕ) (min : ℕ) → image_sized_of s ≡ true → Capped (length sides) 2049 r → t ≡ take r sides
    → opens_call (image_sized_of s) (mesh_of (image_of s)) v t min ≡ opens_call (image_sized_of s) (mesh_of (image_of s)) v sides min
opens_capped s v r sides t min h c e =
    ⊎_elim
    (λ y. ap (λ (l : List ℕ). opens_call (image_sized_of s) (mesh_of (image_of s)) v l min) y)
    (λ y. opens_refused (image_sized_of s) (mesh_of (image_of s)) v t sides min y.0 y.1)
    (capped_sides s v r sides t h c e)

pub truth_words_lem : (r : Result Bool Refusal) → truth_reply r ≡ truth_words (answer_in r)
truth_words_lem (Ok b) = refl
truth_words_lem (Err e) = refl

truth_small : (n : ℕ) (b : Bool) → n < 256 → SmallCode (truth_words (or_refused n b))
truth_small zero b h = omega arith
truth_small (suc n) b h = h

pub opens_small : (z : Bool) (M : Mesh) (v : ℕ) (sides : List ℕ) (min : ℕ) (a : Result Bool Refusal) → answer_in a ≡ opens_call z M v sides min → SmallCode (truth_reply a)
unfolding opens_call
opens_small z M v sides min a e = rw (truth_words_lem a) (rw e (truth_small _ _ (refusal_small z M true (sides_ok M v sides))))
