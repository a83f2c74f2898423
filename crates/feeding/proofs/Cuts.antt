-- A sheet that is fed in parts is read as the whole, however it was cut. Stated over the contracts of the functions. Assumes nothing.
use Prim.Native.Nat.{ℕ}
use native.Mathlib.Omega.{arith}
use native.Mathlib.Decide.{ℕ_discrete}
use borrow.Author.Tests.{eq-eqb, ne_eqb}
use mathlib.Core.Path.{◌≡◌, refl, sym, ap, subst, ◌∙◌}
use mathlib.Core.List.{List, [], ◌∷◌, ◌++◌, append_assoc, append-nil}
use lib.Ieee.{Float}
use lib.ListN.{length}
use lib.Seq.{take_all}
use Rattle.mesh.specs.Given.{Lent}
use Rattle.sheet.specs.declared.Counts.{Counts}
use Rattle.edition.specs.Edition.{seen_of}
use Rattle.edition.specs.Reading.{ReadDone}
use Rattle.std.specs.Prelude.{Result}
use Rattle.mesh.specs.declared.refusals.Refusal.{Refusal}
use Rattle.edition.specs.declared.Seen.{Seen}
use Rattle.edition.proofs.Agree.{read_agree}
use Rattle.image.specs.Words.{word_at_of, put_word_of}
use Rattle.feeding.specs.Parts.{Reader, fed, closed, feed_to, feed_all, joined}
use Rattle.feeding.specs.Feeding.{most, size, kept_in, open_answer, opened, OpenDone, fed_with, FeedDone, ShutDone, Keeps, Shut, Is, Feeds, none, more}
use Rattle.feeding.proofs.Bytes.{opened_keeps, feed_keeps, stands_open, stands_shut, stands_none, fed_not, shut_open, shut_not, kept_long, held_few, shut_word, shut_long, feed_twice}
use Rattle.feeding.proofs.Long.{alike_front, alike_back, alike_read, long_read}

-- ---- the bytes that a reader keeps are read as all that it was fed

-- the answer
pub kept_seen : (limits : Counts) (s b : List ℕ) → Keeps s b → seen_of limits (kept_in b) ≡ seen_of limits s
kept_seen limits s b K = ap (seen_of limits) K.places ∙ sym (long_read limits s)

-- the answer, and every lent place
pub kept_read :
    (limits : Counts) (s b : List ℕ) (L : Lent) (r : Result Seen Refusal) (p : List Float) (q c : List ℕ) (v : List Float) (e : List ℕ) (l : List Float) (o g : List ℕ) (d d' : List Float)
    → Keeps s b → ReadDone limits (kept_in b) L r p q c v e l o g d d' → ReadDone limits s L r p q c v e l o g d d'
kept_read limits s b L r p q c v e l o g d d' K D =
    alike_read (alike_back (alike_front limits s most (omega arith))) (subst (λ (x : List ℕ). ReadDone limits x L r p q c v e l o g d d') K.places D)

-- ---- quiet feeds, late calls

-- a feed of an open reader answers 0, whatever the bytes are
pub feeds_are_quiet : (s b part b' : List ℕ) (r : ℕ) → Keeps s b → FeedDone b part r b' → r ≡ 0
feeds_are_quiet s b part b' r K F = F.answer ∙ stands_open b K.sized K.open_word

-- on a closed one a feed answers 10, and leaves every byte
pub late_feed : (b part b' : List ℕ) (r : ℕ) → Shut b → FeedDone b part r b' → (r ≡ 10) × (b' ≡ b)
late_feed b part b' r S F =
    let t = stands_shut b S.sized S.closed in
    (F.answer ∙ t, F.reader ∙ fed_not b part (λ z. omega (arith, t, z)))

-- and so does a close
pub late_shut : (b b' : List ℕ) (r : ℕ) → Shut b → ShutDone b r b' → (r ≡ 10) × (b' ≡ b)
late_shut b b' r S D =
    let t = stands_shut b S.sized S.closed in
    (D.answer ∙ t, D.reader ∙ shut_not b (λ z. omega (arith, t, z)))

-- a close of an open reader closes it
pub shut_shuts : (s b b' : List ℕ) (r : ℕ) → Keeps s b → ShutDone b r b' → (r ≡ 0) × Shut b'
shut_shuts s b b' r K D =
    let t = stands_open b K.sized K.open_word in
    let f : b' ≡ put_word_of b 1 1 = D.reader ∙ shut_open b t in
    (D.answer ∙ t, subst Shut (sym f) (record { sized = shut_long b K.sized; closed = λ z. omega (arith, shut_word b K.sized, z) }))

-- ---- no reader

-- bytes of another length are no reader: each call answers 4 and leaves them as they are
pub no_open : (b b' : List ℕ) (r : ℕ) → (length b ≡ size → ⊥) → OpenDone b r b' → (r ≡ 4) × (b' ≡ b)
unfolding open_answer opened
no_open b b' r h O = let e = ne_eqb (length b) size h in (O.answer ∙ rw e, O.reader ∙ rw e)

pub no_feed : (b part b' : List ℕ) (r : ℕ) → (length b ≡ size → ⊥) → FeedDone b part r b' → (r ≡ 4) × (b' ≡ b)
no_feed b part b' r h F =
    let t = stands_none b h in
    (F.answer ∙ t, F.reader ∙ fed_not b part (λ z. omega (arith, t, z)))

pub no_shut : (b b' : List ℕ) (r : ℕ) → (length b ≡ size → ⊥) → ShutDone b r b' → (r ≡ 4) × (b' ≡ b)
no_shut b b' r h D =
    let t = stands_none b h in
    (D.answer ∙ t, D.reader ∙ shut_not b (λ z. omega (arith, t, z)))

-- ---- the functions do what the definition of a reader says

-- every pattern of so many bytes is some reader
pub some_reader : (b : List ℕ) → length b ≡ size → (R : Reader) × Is R b
some_reader b h = by (ℕ_discrete (word_at_of b 1) 0)
  where
    by : Dec (word_at_of b 1 ≡ 0) → (R : Reader) × Is R b
    by (yes e) =
        let k = kept_long b h in
        let f = held_few b in
        (fed (kept_in b), record { sized = h; open_word = e; number = omega arith; places = sym (take_all most (kept_in b) (omega arith)) })
    by (no e) = (closed, record { sized = h; closed = e })

-- a feed: the answer, and the reader behind it
pub feed_is : (R : Reader) (b part b' : List ℕ) (r : ℕ) → Is R b → FeedDone b part r b' → (r ≡ (feed_to R part).1) × Is (feed_to R part).0 b'
feed_is (fed s) b part b' r K F = (feeds_are_quiet s b part b' r K F, subst (Keeps (s ++ part)) (sym F.reader) (feed_keeps s b part K))
feed_is closed b part b' r S F = let z = late_feed b part b' r S F in (z.0, subst Shut (sym z.1) S)

-- an opening makes a new reader, also where a closed one lay
pub open_is : (b b' : List ℕ) (r : ℕ) → length b ≡ size → OpenDone b r b' → (r ≡ 0) × Is (fed []) b'
unfolding open_answer
open_is b b' r h O = (O.answer ∙ rw (eq-eqb (length b) size h), subst (Keeps []) (sym O.reader) (opened_keeps b h))

-- parts in turn
pub feeds_are : (R : Reader) {b b' : List ℕ} {parts : List (List ℕ)} → Is R b → Feeds b parts b' → Is (feed_all R parts) b'
unfolding feed_all
feeds_are R K none = K
feeds_are R {b} K (more {part = part} {b₁ = b₁} {r = r} F l) = feeds_are (feed_to R part).0 (feed_is R b part b₁ r K F).1 l

-- ---- however cut

-- of the definition: an open reader that is fed parts was fed the parts joined
pub all_fed : (s : List ℕ) (parts : List (List ℕ)) → feed_all (fed s) parts ≡ fed (s ++ joined parts)
unfolding feed_all joined
all_fed s [] = ap fed (sym (append-nil s))
all_fed s (x ∷ parts) = all_fed (s ++ x) parts ∙ ap fed (append_assoc s x (joined parts))

-- of the functions: the bytes of the reader keep the parts joined
pub feeds_keep : {s b b' : List ℕ} {parts : List (List ℕ)} → Keeps s b → Feeds b parts b' → Keeps (s ++ joined parts) b'
feeds_keep {s} {b} {b'} {parts} K F = subst (λ (R : Reader). Is R b') (all_fed s parts) (feeds_are (fed s) K F)

-- behind an opening
pub fed_keeps : (parts : List (List ℕ)) (b₀ b₁ b₂ : List ℕ) (a : ℕ) → length b₀ ≡ size → OpenDone b₀ a b₁ → Feeds b₁ parts b₂ → Keeps (joined parts) b₂
fed_keeps parts b₀ b₁ b₂ a h O F = feeds_keep (subst (Keeps []) (sym O.reader) (opened_keeps b₀ h)) F

-- however the bytes of a sheet are cut: opened and fed each part, a reader keeps bytes that are read as the parts joined, with the same answer and the same in every lent place
pub however_cut :
    (limits : Counts) (parts : List (List ℕ)) (b₀ b₁ b₂ : List ℕ) (a : ℕ) (L : Lent) (r : Result Seen Refusal) (p : List Float) (q c : List ℕ) (v : List Float) (e : List ℕ) (l : List Float) (o g : List ℕ) (d d' : List Float)
    → length b₀ ≡ size → OpenDone b₀ a b₁ → Feeds b₁ parts b₂ → ReadDone limits (kept_in b₂) L r p q c v e l o g d d' → ReadDone limits (joined parts) L r p q c v e l o g d d'
however_cut limits parts b₀ b₁ b₂ a L r p q c v e l o g d d' h O F D = kept_read limits (joined parts) b₂ L r p q c v e l o g d d' (fed_keeps parts b₀ b₁ b₂ a h O F) D

-- ---- ways of cutting

feeds_from : (b x : List ℕ) {b₁ b' : List ℕ} {parts : List (List ℕ)} → b₁ ≡ fed_with b x → Feeds b₁ parts b' → b' ≡ fed_with b (x ++ joined parts)
unfolding joined
feeds_from b x e none = e ∙ ap (fed_with b) (sym (append-nil x))
feeds_from b x e (more {part = part} {parts = parts} F l) =
    feeds_from b (x ++ part) (F.reader ∙ (ap (λ (y : List ℕ). fed_with y part) e ∙ feed_twice b x part)) l ∙ ap (fed_with b) (append_assoc x part (joined parts))

-- feeds in turn leave the bytes of a reader that one feed of the parts joined leaves
pub feeds_at_once : (b part : List ℕ) {b' : List ℕ} {parts : List (List ℕ)} → Feeds b (part ∷ parts) b' → b' ≡ fed_with b (joined (part ∷ parts))
unfolding joined
feeds_at_once b part (more F l) = feeds_from b part F.reader l

-- any two ways of cutting the same bytes give the same answer and the same in every lent place
pub cuts_agree :
    (limits : Counts) (parts parts' : List (List ℕ)) (b₀ b₁ b₂ e₀ e₁ e₂ : List ℕ) (a a' : ℕ) (L : Lent) (r r' : Result Seen Refusal) (p p' : List Float) (q q' c c' : List ℕ) (v v' : List Float) (e e' : List ℕ) (l l' : List Float) (o o' g g' : List ℕ) (d f f' : List Float)
    → joined parts ≡ joined parts'
    → length b₀ ≡ size → OpenDone b₀ a b₁ → Feeds b₁ parts b₂ → ReadDone limits (kept_in b₂) L r p q c v e l o g d f
    → length e₀ ≡ size → OpenDone e₀ a' e₁ → Feeds e₁ parts' e₂ → ReadDone limits (kept_in e₂) L r' p' q' c' v' e' l' o' g' d f'
    → (r ≡ r') × ((p ≡ p') × (q ≡ q') × (c ≡ c') × (v ≡ v') × (e ≡ e') × (l ≡ l') × (o ≡ o') × (g ≡ g')) × (f ≡ f')
cuts_agree limits parts parts' b₀ b₁ b₂ e₀ e₁ e₂ a a' L r r' p p' q q' c c' v v' e e' l l' o o' g g' d f f' j h O F D h' O' F' D' =
    read_agree limits (joined parts) L d r r' p p' q q' c c' v v' e e' l l' o o' g g' f f' (however_cut limits parts b₀ b₁ b₂ a L r p q c v e l o g d f h O F D)
    (subst (λ (x : List ℕ). ReadDone limits x L r' p' q' c' v' e' l' o' g' d f') (sym j) (however_cut limits parts' e₀ e₁ e₂ a' L r' p' q' c' v' e' l' o' g' d f' h' O' F' D'))

-- an empty part changes nothing, at any place among the parts
pub empty_part : (parts parts' : List (List ℕ)) → joined (parts ++ ([] ∷ parts')) ≡ joined (parts ++ parts')
unfolding joined
empty_part [] parts' = refl
empty_part (x ∷ parts) parts' = ap (λ (y : List ℕ). x ++ y) (empty_part parts parts')

-- ---- the contracts leave nothing open

pub open_agree : (b b' b'' : List ℕ) (r r' : ℕ) → OpenDone b r b' → OpenDone b r' b'' → (r ≡ r') × (b' ≡ b'')
open_agree b b' b'' r r' f h = (f.answer ∙ sym h.answer, f.reader ∙ sym h.reader)

pub feed_agree : (b part b' b'' : List ℕ) (r r' : ℕ) → FeedDone b part r b' → FeedDone b part r' b'' → (r ≡ r') × (b' ≡ b'')
feed_agree b part b' b'' r r' f h = (f.answer ∙ sym h.answer, f.reader ∙ sym h.reader)

pub shut_agree : (b b' b'' : List ℕ) (r r' : ℕ) → ShutDone b r b' → ShutDone b r' b'' → (r ≡ r') × (b' ≡ b'')
shut_agree b b' b'' r r' f h = (f.answer ∙ sym h.answer, f.reader ∙ sym h.reader)
