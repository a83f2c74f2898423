-- What a C function that returned 0 did: a call of a history; the image that came back is the mesh that the definition gave, and the log's bytes are the words of its entries. Assumes nothing.
use Prim.Native.Nat.{ℕ, zero, suc, ◌+◌, ◌-◌, ◌*◌, ◌/◌, ◌<◌, ◌≤◌}
use mathlib.Core.Path.{◌≡◌, refl, sym, ap, ◌∙◌, subst}
use mathlib.Core.Bool.{Bool, true, false, not, ◌&&◌}
use mathlib.Core.List.{List, [], ◌∷◌, ◌++◌, map}
use native.Mathlib.Omega.{arith}
use borrow.Author.Tests.{leb-true}
use lib.Dec.{T, leb, eqb}
use lib.ListN.{length, get_or, take, drop, replicate, length-map}
use lib.Seq.{take_at}
use lib.Ieee.{Float, nan, inf, binary32, fits, nan_bits, of_bits}
use lib.Ieee.Bits.{of_bits-fits}
use Rattle.lists.specs.Lists.{pick, padded, each, tab}
use Rattle.model.specs.Mesh.{Mesh}
use Rattle.model.specs.Valid.{numbers_fit_of, indices_fit_of}
use Rattle.model.specs.Elements.{kind_of}
use Rattle.model.specs.Run.{Entry, Rooms, Run, start}
use Rattle.model.specs.Split.{split_by_sides_of}
use Rattle.model.specs.Pieces.{remove_straddlers_of}
use Rattle.model.specs.Cut.{Line, cut}
use Rattle.model.specs.Crack.{crack}
use Rattle.model.specs.Calls.{Outcome, refused, done, refusal, blade_ok, blade_of, cut_refusal, sides_ok, triangles_lent, first_fault, fitted, outcome, unless, cut_call, crack_call, split_call, straddlers_call}
use Rattle.model.specs.Reads.{value, refused as denied}
use Rattle.model.specs.Trace.{All}
use Rattle.mesh.specs.Given.{mesh_of}
use Rattle.mesh.specs.Log.{words_of, words_in}
use Rattle.image.specs.Words.{word_at_of, words_from, number_of, numbers_from, written}
use Rattle.image.specs.Image.{image_words, image_of, blocks_in, image_sized_of, image_words_of}
use Rattle.image.proofs.Words.{bytes_length}
use Rattle.call_frame.proofs.Front.{words_long}
use Rattle.lineage.specs.History.{Called, cutting, cracking, splitting, removing, Stored, Accepted, Again, Few}
use Rattle.lineage.proofs.Again.{called_checked, accepted_again}
use Rattle.joined.specs.Entries.{Held32}
use Rattle.joined.proofs.Join.{not_done, sized_call}
use Rattle.joined.proofs.Again.{all_tab, stored}
use Rattle.imaged.specs.Bytes.{bytes_in, image_bytes}
use Rattle.imaged.proofs.Words.{Word, word_of}
use Rattle.imaged.proofs.Held.{counts_first, Writable, accepted_writable, image_long, count_first, image_held, image_sized_lem}
use Rattle.replies.specs.Reply.{code_of, shown_of}
use Rattle.mesh_replies.specs.Both.{beside}
use Rattle.job_replies.specs.Outcomes.{OutcomeReplied, with_rooms}
use Rattle.bench_c.specs.Torn.{rooms_in_of, blade_in, words_few_of, if_read, cut_outcome, crack_outcome, split_outcome, straddlers_outcome}
use Rattle.hosted.specs.Images.{image_in, entries_in, Asked, cuts, cracks, splits, straddlers, Replying}

infinity_fits : T (fits binary32 (inf false))
unfolding fits
infinity_fits = tt

nan_fits : T (fits binary32 nan)
unfolding fits
nan_fits = tt

-- ---- no call is refused with 0

-- an outcome that is not the refusal 0
abbrev Firm : Outcome → Type 0
Firm o = o ≡ refused 0 → ⊥

numbered : Outcome → ℕ
numbered (refused n) = n
numbered (done M l c) = 1

some_number : (n : ℕ) → (n ≡ 0 → ⊥) → Firm (refused n)
unfolding numbered
some_number n h e = h (ap numbered e)

done_firm : (M : Mesh) (l : List Entry) (c : Bool) → Firm (done M l c)
unfolding numbered
done_firm M l c e = let z : ◌≡◌ {A = ℕ} 1 0 = ap numbered e in omega arith

fitted_firm : (n : ℕ) (X : Run) → Firm (fitted n X)
fitted_firm zero X = done_firm X.mesh X.log _
fitted_firm (suc n) X = some_number (suc n) (λ e. omega arith)

unless_firm : (n : ℕ) (L : Rooms) (X : Run) → Firm (unless n (outcome L X))
unfolding outcome
unless_firm zero L X = fitted_firm (first_fault L X.needs) X
unless_firm (suc n) L X = some_number (suc n) (λ e. omega arith)

-- arguments that could not be read are refused
bad_refused : (sized : Bool) (M : Mesh) (numbers : Bool) → refusal sized M numbers false ≡ 0 → ⊥
unfolding refusal
bad_refused sized M numbers e = by (not sized) (not (numbers_fit_of M && numbers)) (not (indices_fit_of M)) e
  where
    by : (a b c : Bool) → ◌≡◌ {A = ℕ} (pick a 1 (pick b 2 (pick c 3 4))) 0 → ⊥
    by true b c e = omega arith
    by false true c e = omega arith
    by false false true e = omega arith
    by false false false e = omega arith

pick_firm : (b : Bool) (o : Outcome) (n : ℕ) → Firm o → (n ≡ 0 → ⊥) → Firm (pick b o (refused n))
pick_firm true o n f h = f
pick_firm false o n f h = some_number n h

-- bytes beside an image that are not as they should be are refused
rooms_firm : (s rooms : List ℕ) (numbers : Bool) (o : Outcome) → Firm o → Firm (with_rooms s rooms numbers o)
unfolding with_rooms
rooms_firm s rooms numbers o f = pick_firm (eqb (length rooms) 16) o (refusal (image_sized_of s) (mesh_of (image_of s)) numbers false) f (bad_refused (image_sized_of s) (mesh_of (image_of s)) numbers)

read_firm : (ok : Bool) (s : List ℕ) (o : Outcome) → Firm o → Firm (if_read ok s o)
read_firm ok s o f = pick_firm ok o (refusal (image_sized_of s) (mesh_of (image_of s)) true false) f (bad_refused (image_sized_of s) (mesh_of (image_of s)) true)

cut_firm : (z : Bool) (M : Mesh) (n : ℕ) (B : Line) (f : Float) (L : Rooms) → Firm (cut_call z M n B f L)
unfolding cut_call
cut_firm z M n B f L = unless_firm (cut_refusal z M n B f L) L (cut (kind_of M) (blade_of n B) f (start M))

crack_firm : (z : Bool) (M : Mesh) (is : List ℕ) (min : ℕ) (L : Rooms) → Firm (crack_call z M is min L)
unfolding crack_call
crack_firm z M is min L = unless_firm (refusal z M true (triangles_lent L M)) L (crack (kind_of M) min is (start M))

split_firm : (z : Bool) (M : Mesh) (v : ℕ) (sides : List ℕ) (L : Rooms) → Firm (split_call z M v sides L)
unfolding split_call
split_firm z M v sides L = unless_firm (refusal z M true (sides_ok M v sides && triangles_lent L M)) L (split_by_sides_of (kind_of M) v sides (start M))

straddlers_firm : (z : Bool) (M : Mesh) (L : Rooms) → Firm (straddlers_call z M L)
unfolding straddlers_call
straddlers_firm z M L = unless_firm (refusal z M true (triangles_lent L M)) L (remove_straddlers_of (kind_of M) (start M))

asked_firm : (s : List ℕ) (logged : ℕ) (o : Outcome) → Asked s logged o → Firm o
unfolding cut_outcome crack_outcome split_outcome straddlers_outcome
asked_firm s logged o (cuts blade n f rooms) =
    let c = cut_call (image_sized_of s) (mesh_of (image_of s)) n (blade_in blade) (number_of f) (rooms_in_of rooms logged) in
    read_firm (eqb (length blade) 16) s (with_rooms s rooms (blade_ok (blade_in blade)) c) (rooms_firm s rooms (blade_ok (blade_in blade)) c (cut_firm (image_sized_of s) (mesh_of (image_of s)) n (blade_in blade) (number_of f) (rooms_in_of rooms logged)))
asked_firm s logged o (cracks torn min rooms) =
    let ts = words_from torn 0 (length torn / 4) in
    let c = crack_call (image_sized_of s) (mesh_of (image_of s)) ts min (rooms_in_of rooms logged) in
    read_firm (words_few_of (length torn)) s (with_rooms s rooms true c) (rooms_firm s rooms true c (crack_firm (image_sized_of s) (mesh_of (image_of s)) ts min (rooms_in_of rooms logged)))
asked_firm s logged o (splits v sides rooms) =
    rooms_firm s rooms true (split_call (image_sized_of s) (mesh_of (image_of s)) v sides (rooms_in_of rooms logged)) (split_firm (image_sized_of s) (mesh_of (image_of s)) v sides (rooms_in_of rooms logged))
asked_firm s logged o (straddlers rooms) =
    rooms_firm s rooms true (straddlers_call (image_sized_of s) (mesh_of (image_of s)) (rooms_in_of rooms logged)) (straddlers_firm (image_sized_of s) (mesh_of (image_of s)) (rooms_in_of rooms logged))

-- ---- what is done is a call of a history

pick_done : (b : Bool) (o : Outcome) (n : ℕ) (M : Mesh) (l : List Entry) (c : Bool) → pick b o (refused n) ≡ done M l c → o ≡ done M l c
pick_done true o n M l c e = e
pick_done false o n M l c e = absurd (not_done n M l c e)

rooms_done : (s rooms : List ℕ) (numbers : Bool) (o : Outcome) (M : Mesh) (l : List Entry) (c : Bool) → with_rooms s rooms numbers o ≡ done M l c → o ≡ done M l c
unfolding with_rooms
rooms_done s rooms numbers o M l c e = pick_done (eqb (length rooms) 16) o (refusal (image_sized_of s) (mesh_of (image_of s)) numbers false) M l c e

read_done : (ok : Bool) (s : List ℕ) (o : Outcome) (M : Mesh) (l : List Entry) (c : Bool) → if_read ok s o ≡ done M l c → o ≡ done M l c
read_done ok s o M l c e = pick_done ok o (refusal (image_sized_of s) (mesh_of (image_of s)) true false) M l c e

-- no call passes whose image is not sized
module _ (L : Rooms) (M : Mesh) where
  cut_off : (n : ℕ) (B : Line) (f : Float) → cut_call false M n B f L ≡ refused 1
  unfolding cut_call refusal
  cut_off n B f = refl

  crack_off : (is : List ℕ) (min : ℕ) → crack_call false M is min L ≡ refused 1
  unfolding crack_call refusal
  crack_off is min = refl

  split_off : (v : ℕ) (sides : List ℕ) → split_call false M v sides L ≡ refused 1
  unfolding split_call refusal
  split_off v sides = refl

  straddlers_off : straddlers_call false M L ≡ refused 1
  unfolding straddlers_call refusal
  straddlers_off = refl

-- the rooms, and the call
abbrev CallOf : List ℕ → ℕ → Mesh → List Entry → Type 0
CallOf s logged M' more = (rooms : List ℕ) × Called (rooms_in_of rooms logged) (mesh_of (image_of s)) M' more

asked_called : (s : List ℕ) (logged : ℕ) (o : Outcome) → Asked s logged o → (M' : Mesh) (more : List Entry) (c : Bool) → o ≡ done M' more c → CallOf s logged M' more
unfolding cut_outcome crack_outcome split_outcome straddlers_outcome
asked_called s logged o (cuts blade n f rooms) M' more c e =
    let M = mesh_of (image_of s) in
    let L = rooms_in_of rooms logged in
    let B = blade_in blade in
    let k = cut_call (image_sized_of s) M n B (number_of f) L in (
      rooms,
      sized_call L M (λ z. cut_call z M n B (number_of f) L) (cut_off L M n B (number_of f)) (λ N l x d. cutting n B (number_of f) d) (image_sized_of s) M' more c
          (rooms_done s rooms (blade_ok B) k M' more c (read_done (eqb (length blade) 16) s (with_rooms s rooms (blade_ok B) k) M' more c e)),
    )
asked_called s logged o (cracks torn min rooms) M' more c e =
    let M = mesh_of (image_of s) in
    let L = rooms_in_of rooms logged in
    let ts = words_from torn 0 (length torn / 4) in
    let k = crack_call (image_sized_of s) M ts min L in (
      rooms,
      sized_call L M (λ z. crack_call z M ts min L) (crack_off L M ts min) (λ N l x d. cracking ts min d) (image_sized_of s) M' more c
          (rooms_done s rooms true k M' more c (read_done (words_few_of (length torn)) s (with_rooms s rooms true k) M' more c e)),
    )
asked_called s logged o (splits v sides rooms) M' more c e =
    let M = mesh_of (image_of s) in
    let L = rooms_in_of rooms logged in
    (rooms, sized_call L M (λ z. split_call z M v sides L) (split_off L M v sides) (λ N l x d. splitting v sides d) (image_sized_of s) M' more c (rooms_done s rooms true (split_call (image_sized_of s) M v sides L) M' more c e))
asked_called s logged o (straddlers rooms) M' more c e =
    let M = mesh_of (image_of s) in
    let L = rooms_in_of rooms logged in
    (rooms, sized_call L M (λ z. straddlers_call z M L) (straddlers_off L M) (λ N l x d. removing d) (image_sized_of s) M' more c (rooms_done s rooms true (straddlers_call (image_sized_of s) M L) M' more c e))

-- ---- what a reply of 0 shows

-- what was done, and the bytes that tell of it
pub record Shown (o : Outcome) (lent logged : ℕ) (out log : List ℕ) : Type 0 where
  pub mesh : Mesh
  pub more : List Entry
  pub any : Bool
  pub is : o ≡ done mesh more any
  pub bytes : out ≡ written lent (pick any 1 0 ∷ length more ∷ image_words_of mesh)
  pub entries : log ≡ written logged (words_in (map words_of more))

shown_by : (o : Outcome) → Firm o → (lent logged : ℕ) (out log : List ℕ) → OutcomeReplied o lent logged 0 out log → Shown o lent logged out log
shown_by (refused n) f lent logged out log R = absurd (f (ap (λ (m : ℕ). refused m) (sym R.code)))
shown_by (done M l c) f lent logged out log R = by (leb (4 * length ws) lent) R.code R.bytes R.entries
  where
    ws : List ℕ
    ws = pick c 1 0 ∷ length l ∷ image_words_of M

    by : (b : Bool) → 0 ≡ code_of (pick b (value ws) (denied 4)) → out ≡ written lent (shown_of (pick b (value ws) (denied 4))) → log ≡ written logged (beside (pick b (value ws) (denied 4)) (words_in (map words_of l)))
        → Shown (done M l c) lent logged out log
    by true z e g = record { mesh = M; more = l; any = c; is = refl; bytes = e; entries = g }
    by false z e g = absurd (omega arith)

-- ---- the numbers of an image are numbers that f32 holds

number_fits : (w : ℕ) → T (fits binary32 (number_of w))
unfolding number_of
number_fits w = by (nan_bits binary32 w)
  where
    by : (b : Bool) → T (fits binary32 (pick b (inf false) (of_bits binary32 w)))
    by true = infinity_fits
    by false = of_bits-fits binary32 w

get_d_fits : (l : List Float) → All (λ x. T (fits binary32 x)) l → (i : ℕ) → T (fits binary32 (get_or l i nan))
get_d_fits [] h i = nan_fits
get_d_fits (x ∷ l) h zero = h.0
get_d_fits (x ∷ l) h (suc i) = get_d_fits l h.1 i

numbers_fit : (s : List ℕ) (at n i : ℕ) → T (fits binary32 (get_or (numbers_from s at n) i nan))
unfolding numbers_from
numbers_fit s at n i = get_d_fits (tab n (λ k. number_of (word_at_of s (at + k)))) (all_tab (λ x. T (fits binary32 x)) n (λ k. number_of (word_at_of s (at + k))) (λ k. number_fits (word_at_of s (at + k)))) i

image_32 : (s : List ℕ) → Held32 (image_of s)
unfolding image_of blocks_in
image_32 s = record { points = numbers_fit s _ _; volumes = numbers_fit s _ _; lengths = numbers_fit s _ _ }

pub image_stored : (s : List ℕ) → Stored (mesh_of (image_of s))
image_stored s = stored (image_of s) (image_32 s)

-- ---- the image that came back

module _ (lent logged a n : ℕ) (M : Mesh) (F : Few M) (out : List ℕ) (is : out ≡ written lent (a ∷ n ∷ image_words_of M)) where
  told_word : (i : ℕ) → i < 6 → Word (get_or (a ∷ n ∷ image_words_of M) i 0) → word_at_of out i ≡ get_or (a ∷ n ∷ image_words_of M) i 0
  unfolding written padded
  told_word i h w =
      let ws = a ∷ n ∷ image_words_of M in
      ap (λ (s : List ℕ). word_at_of s i) is ∙ word_of ws (replicate (lent - length (bytes_in ws)) 0) i (omega (arith, image_long M)) w

  told_count : (i : ℕ) → i < 4 → Word (get_or (counts_first M) i 0) → word_at_of out (2 + i) ≡ get_or (counts_first M) i 0
  told_count i h w =
      let g = count_first M i h in
      let e : 2 + i ≡ suc (suc i) = omega arith in
      ap (word_at_of out) e ∙ (told_word (suc (suc i)) (omega arith) (subst Word (sym g) w) ∙ g)

  pub image_back : image_in out ≡ image_bytes M
  unfolding image_in written padded each
  image_back =
      let p = told_count 0 (omega arith) (omega (arith, F.particles)) in
      let t = told_count 1 (omega arith) (omega (arith, F.triangles)) in
      let e = told_count 2 (omega arith) (omega (arith, F.edges)) in
      let b = told_count 3 (omega arith) (omega (arith, F.boundary)) in
      let ws = image_words_of M in
      let z = replicate {A = ℕ} (lent - length (bytes_in (a ∷ n ∷ ws))) 0 in
      let d : drop 8 out ≡ bytes_in ws ++ z = ap (drop 8) is in
      let k : length (bytes_in ws) ≡ 4 * image_words (length M.particles) (length M.triangles) (length M.edges) (length M.boundary) = bytes_length ws ∙ ap (λ (m : ℕ). 4 * m) (image_long M) in
      let m = 4 * image_words (length M.particles) (length M.triangles) (length M.edges) (length M.boundary) in
      rw (p, t, e, b) (ap (take m) d ∙ take_at (bytes_in ws) z m k)

  pub entries_back : (more : List Entry) (log : List ℕ) → n ≡ length more → Word n → log ≡ written logged (words_in (map words_of more)) → entries_in out log ≡ bytes_in (words_in (map words_of more))
  unfolding entries_in written padded
  entries_back more log c w e =
      let ws = words_in (map words_of more) in
      let z = replicate {A = ℕ} (logged - length (bytes_in ws)) 0 in
      let m : word_at_of out 1 ≡ n = told_word 1 (omega arith) w in
      let k : length (bytes_in ws) ≡ 24 * n = omega (arith, bytes_length ws, words_long (map words_of more), length-map more words_of) in
      rw (m, e) (take_at (bytes_in ws) z (24 * n) k)

-- ---- all of it

-- what a C function that returned 0 did to an image of triangles: a call of a history, whose mesh is the image that came back, accepted again, and whose entries are the log's bytes
pub record Next (s out log : List ℕ) : Type 0 where
  pub rooms : Rooms
  pub more : List Entry
  pub called : Called rooms (mesh_of (image_of s)) (mesh_of (image_of (image_in out))) more
  pub entries : entries_in out log ≡ bytes_in (words_in (map words_of more))
  pub sized : image_sized_of (image_in out) ≡ true
  pub accepted : Accepted (mesh_of (image_of (image_in out)))

pub next_image : (s out log : List ℕ) → Replying s out log → 0 < length (mesh_of (image_of s)).triangles → Next s out log
next_image s out log X some =
    let H = shown_by X.outcome (asked_firm s X.logged X.outcome X.asked) X.lent X.logged out log X.replied in
    let C = asked_called s X.logged X.outcome X.asked H.mesh H.more H.any H.is in
    let M = mesh_of (image_of s) in
    let L = rooms_in_of C.0 X.logged in
    let lent : length M.triangles ≤ L.triangles = leb-true _ _ (called_checked L M C.1).lent in
    let A : Again L H.mesh H.more = accepted_again L M some (omega arith) (image_stored s) C.1 in
    let F : Few H.mesh = record { particles = omega (arith, A.particles); triangles = omega (arith, A.triangles); edges = omega (arith, A.edges); boundary = omega (arith, A.boundary) } in
    let W : Writable H.mesh = accepted_writable H.mesh A.accepted F in
    let back : image_in out ≡ image_bytes H.mesh = image_back X.lent X.logged (pick H.any 1 0) (length H.more) H.mesh F out H.bytes in
    let held : mesh_of (image_of (image_in out)) ≡ H.mesh = ap (λ (x : List ℕ). mesh_of (image_of x)) back ∙ image_held H.mesh W F in
    record {
      rooms = L;
      more = H.more;
      called = subst (λ (N : Mesh). Called L M N H.more) (sym held) C.1;
      entries = entries_back X.lent X.logged (pick H.any 1 0) (length H.more) H.mesh F out H.bytes H.more log refl (omega (arith, A.entries)) H.entries;
      sized = ap image_sized_of back ∙ image_sized_lem H.mesh W F;
      accepted = subst Accepted (sym held) A.accepted;
    }
