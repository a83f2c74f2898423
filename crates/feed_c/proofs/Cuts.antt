-- A sheet that is fed in parts gets the reply of the whole, however it was cut. Stated over the contracts of the C functions. Assumes nothing.
use Prim.Native.Nat.{ℕ}
use native.Mathlib.Omega.{arith}
use mathlib.Core.Path.{◌≡◌, sym, ap, subst, ◌∙◌}
use mathlib.Core.Bool.{false}
use mathlib.Core.List.{List, []}
use lib.ListN.{length, take}
use Rattle.model.specs.Reads.{refused, value}
use Rattle.bits.specs.Bits.{bits_of}
use Rattle.image.specs.Words.{written}
use Rattle.sheet.specs.Sheet.{most}
use Rattle.sheet.proofs.Cases.{worked, worked_counts}
use Rattle.edition.specs.Edition.{sheet_of, seen_of, whole_with}
use Rattle.std.specs.Prelude.{Result, Err}
use Rattle.mesh.specs.declared.refusals.Refusal.{Refusal}
use Rattle.mesh.specs.declared.refusals.Refusal.TheVariants.{Sheet}
use Rattle.edition.specs.declared.Seen.{Seen}
use Rattle.edition.proofs.Cases.{worked2, worked_seen, worked2_seen}
use Rattle.replies.specs.Reply.{Replied}
use Rattle.replies.proofs.Saying.{replied_as}
use Rattle.sheet_c.specs.Sheets.{sheet_words, sheet_told, sheet_reply}
use Rattle.feeding.specs.Parts.{Reader, fed, closed, closed_by, joined}
use Rattle.feeding.specs.Feeding as F
use Rattle.feeding.specs.Feeding.{size, standing, OpenDone, FeedDone, Keeps, Shut, Is, Feeds}
use Rattle.feeding.proofs.Bytes.{stands_open, stands_shut, stands_none, shut_not}
use Rattle.feeding.proofs.Long.{Alike, same, both, alike_front}
use Rattle.feeding.proofs.Cuts.{fed_keeps, late_feed, shut_shuts}
use Rattle.feeding.proofs.Worked.{short_seen, nothing_seen}
use Rattle.feed_c.specs.Closing.{Closed, reply_of}
use Rattle.feed_c.proofs.Closes.{reply_open, reply_late}

-- ---- bytes that are read alike get one reply

reply_alike : {s u : List ℕ} → Alike most s u → sheet_reply s ≡ sheet_reply u
unfolding sheet_reply
reply_alike (same e) = ap sheet_reply e
reply_alike {s} {u} (both n e f) = ap (λ (x : Result Seen Refusal). sheet_told x s) e ∙ sym (ap (λ (x : Result Seen Refusal). sheet_told x u) f)

-- what follows the first 17,293 bytes changes no byte of the reply
pub long_reply : (s : List ℕ) → sheet_reply s ≡ sheet_reply (take F.most s)
long_reply s = reply_alike (alike_front most s F.most (omega arith))

-- ---- what a close of a reader that was fed s gives: the reply to s

pub close_whole : (s b b' : List ℕ) (lent r : ℕ) (out : List ℕ) → Keeps s b → Closed b b' lent r out → Replied (sheet_reply s) lent r out
close_whole s b b' lent r out K C =
    replied_as _ _ lent r out (reply_open b (stands_open b K.sized K.open_word) ∙ (ap sheet_reply K.places ∙ sym (long_reply s))) C.reply

-- a close closes, refused or not
pub close_shuts : (s b b' : List ℕ) (lent r : ℕ) (out : List ℕ) → Keeps s b → Closed b b' lent r out → Shut b'
close_shuts s b b' lent r out K C = (shut_shuts s b b' (standing b) K (record { answer = λ i. standing b; reader = C.reader })).1

-- ---- late closes, and no reader

-- what is refused before anything is read: the number, the reader as it was, and 0 in every result byte, however few there are
refused_first : (b b' : List ℕ) (n lent r : ℕ) (out : List ℕ) → standing b ≡ n → (n ≡ 0 → ⊥) → Closed b b' lent r out → (r ≡ n) × (b' ≡ b) × (out ≡ written lent [])
refused_first b b' n lent r out e h C =
    let z : standing b ≡ 0 → ⊥ = λ x. h (sym e ∙ x) in
    let R = replied_as _ _ lent r out (reply_late b z ∙ ap refused e) C.reply in
    (R.code, C.reader ∙ shut_not b z, R.bytes)

-- behind the close: 10
pub late_close : (b b' : List ℕ) (lent r : ℕ) (out : List ℕ) → Shut b → Closed b b' lent r out → (r ≡ 10) × (b' ≡ b) × (out ≡ written lent [])
late_close b b' lent r out S C = refused_first b b' 10 lent r out (stands_shut b S.sized S.closed) (λ z. omega arith) C

-- so a feed and a close behind the close leave every byte of the reader
pub late_leaves : (b part b' b'' : List ℕ) (r r' lent : ℕ) (out : List ℕ) → Shut b → FeedDone b part r b' → Closed b b'' lent r' out
    → ((r ≡ 10) × (b' ≡ b)) × ((r' ≡ 10) × (b'' ≡ b) × (out ≡ written lent []))
late_leaves b part b' b'' r r' lent out S F C = (late_feed b part b' r S F, late_close b b'' lent r' out S C)

-- bytes of another length: 4
pub no_close : (b b' : List ℕ) (lent r : ℕ) (out : List ℕ) → (length b ≡ size → ⊥) → Closed b b' lent r out → (r ≡ 4) × (b' ≡ b) × (out ≡ written lent [])
no_close b b' lent r out h C = refused_first b b' 4 lent r out (stands_none b h) (λ z. omega arith) C

-- ---- the close does what the definition of a reader says

pub close_is : (R : Reader) (b b' : List ℕ) (lent r : ℕ) (out : List ℕ) → Is R b → Closed b b' lent r out
    → Replied (reply_of (closed_by sheet_reply R).1) lent r out × Is (closed_by sheet_reply R).0 b'
close_is (fed s) b b' lent r out K C = (close_whole s b b' lent r out K C, close_shuts s b b' lent r out K C)
close_is closed b b' lent r out S C =
    let z = late_close b b' lent r out S C in
    (record { code = z.0; bytes = z.2 }, subst Shut (sym z.1) S)

-- ---- however cut

-- however the bytes of a sheet are cut: open, feed each part, close replies what the bytes of the parts joined are replied in one piece
pub however_cut : (parts : List (List ℕ)) (b₀ b₁ b₂ b₃ : List ℕ) (a lent r : ℕ) (out : List ℕ)
    → length b₀ ≡ size → OpenDone b₀ a b₁ → Feeds b₁ parts b₂ → Closed b₂ b₃ lent r out → Replied (sheet_reply (joined parts)) lent r out
however_cut parts b₀ b₁ b₂ b₃ a lent r out h O F C = close_whole (joined parts) b₂ b₃ lent r out (fed_keeps parts b₀ b₁ b₂ a h O F) C

-- the number and every result byte that one call with the whole gives
pub as_the_whole : (parts : List (List ℕ)) (b₀ b₁ b₂ b₃ : List ℕ) (a lent r r' : ℕ) (out out' : List ℕ)
    → length b₀ ≡ size → OpenDone b₀ a b₁ → Feeds b₁ parts b₂ → Closed b₂ b₃ lent r out → Replied (sheet_reply (joined parts)) lent r' out' → (r ≡ r') × (out ≡ out')
as_the_whole parts b₀ b₁ b₂ b₃ a lent r r' out out' h O F C W =
    let R = however_cut parts b₀ b₁ b₂ b₃ a lent r out h O F C in
    (R.code ∙ sym W.code, R.bytes ∙ sym W.bytes)

-- any two ways of cutting the same bytes give the same
pub cuts_agree : (parts parts' : List (List ℕ)) (b₀ b₁ b₂ b₃ e₀ e₁ e₂ e₃ : List ℕ) (a a' lent r r' : ℕ) (out out' : List ℕ) → joined parts ≡ joined parts'
    → length b₀ ≡ size → OpenDone b₀ a b₁ → Feeds b₁ parts b₂ → Closed b₂ b₃ lent r out
    → length e₀ ≡ size → OpenDone e₀ a' e₁ → Feeds e₁ parts' e₂ → Closed e₂ e₃ lent r' out' → (r ≡ r') × (out ≡ out')
cuts_agree parts parts' b₀ b₁ b₂ b₃ e₀ e₁ e₂ e₃ a a' lent r r' out out' j h O F C h' O' F' C' =
    as_the_whole parts b₀ b₁ b₂ b₃ a lent r r' out out' h O F C
    (replied_as _ _ lent r' out' (ap sheet_reply (sym j)) (however_cut parts' e₀ e₁ e₂ e₃ a' lent r' out' h' O' F' C'))

-- the contract leaves nothing open
pub close_agree : (b b' b'' : List ℕ) (lent r r' : ℕ) (out out' : List ℕ) → Closed b b' lent r out → Closed b b'' lent r' out' → (r ≡ r') × (b' ≡ b'') × (out ≡ out')
close_agree b b' b'' lent r r' out out' A B = (A.reply.code ∙ sym B.reply.code, A.reader ∙ sym B.reader, A.reply.bytes ∙ sym B.reply.bytes)

-- ---- computed examples: the worked sheet, in either edition; its first 45 bytes, 9; nothing fed, 9

told : (s : List ℕ) (x : Result Seen Refusal) → seen_of most s ≡ x → sheet_reply s ≡ sheet_told x s
unfolding sheet_reply
told s x e = ap (λ (y : Result Seen Refusal). sheet_told y s) e

module _ (parts : List (List ℕ)) (b₀ b₁ b₂ b₃ : List ℕ) (a lent r : ℕ) (out : List ℕ) (h : length b₀ ≡ size) (O : OpenDone b₀ a b₁) (F : Feeds b₁ parts b₂) (C : Closed b₂ b₃ lent r out) where
  -- the reply to bytes of which a look tells
  told_as : (s : List ℕ) (x : Result Seen Refusal) → joined parts ≡ s → seen_of most s ≡ x → Replied (sheet_told x s) lent r out
  told_as s x j e = replied_as _ _ lent r out (ap sheet_reply j ∙ told s x e) (however_cut parts b₀ b₁ b₂ b₃ a lent r out h O F C)

  pub worked_closed : joined parts ≡ worked → Replied (value (sheet_words (sheet_of (bits_of worked)))) lent r out
  worked_closed j = told_as worked (whole_with worked_counts false) j worked_seen

  pub worked2_closed : joined parts ≡ worked2 → Replied (value (sheet_words (sheet_of (bits_of worked2)))) lent r out
  worked2_closed j = told_as worked2 (whole_with worked_counts false) j worked2_seen

  pub short_closed : joined parts ≡ take 45 worked → Replied (refused 9) lent r out
  short_closed j = told_as (take 45 worked) (Err Sheet) j short_seen

  pub nothing_closed : joined parts ≡ joined [] → Replied (refused 9) lent r out
  nothing_closed j = told_as (joined []) (Err Sheet) j nothing_seen
