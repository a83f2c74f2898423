-- What a close does is what its contract says. Assumes nothing.
use Prim.Native.Nat.{ℕ, ◌+◌, ◌-◌, ◌<◌}
use native.Mathlib.Omega.{arith}
use mathlib.Core.Path.{◌≡◌, sym, ap, ◌∙◌}
use mathlib.Core.Bool.{Bool, cond}
use mathlib.Core.List.{List}
use lib.ListN.{length, take, drop}
use borrow.Author.Tests.{eq-eqb, ne_eqb}
use Rattle.model.specs.Reads.{refused}
use Rattle.replies.specs.Reply.{Replied}
use Rattle.replies.proofs.Saying.{replied_as}
use Rattle.sheet_c.specs.Sheets.{sheet_reply}
use Rattle.feeding.specs.Feeding.{size, held_in, kept_in, standing, ShutDone}
use Rattle.feeding.proofs.Steps.{part_kept, shut_size, standing_small}
use Rattle.feed_c.specs.Closing.{close_reply, Closed}

-- what a close of an open reader is answered, and of another
pub reply_open : (b : List ℕ) → standing b ≡ 0 → close_reply b ≡ sheet_reply (kept_in b)
unfolding close_reply
reply_open b h = ap (λ (t : Bool). cond t (sheet_reply (kept_in b)) (refused (standing b))) (eq-eqb (standing b) 0 h)

pub reply_late : (b : List ℕ) → (standing b ≡ 0 → ⊥) → close_reply b ≡ refused (standing b)
unfolding close_reply
reply_late b h = ap (λ (t : Bool). cond t (sheet_reply (kept_in b)) (refused (standing b))) (ne_eqb (standing b) 0 h)

-- a close of an open reader: the bytes kept were read
pub close_open : (b b₁ : List ℕ) (why n lent r : ℕ) (out : List ℕ) → ShutDone b why b₁ → why ≡ 0 → n ≡ held_in b₁
    → Replied (sheet_reply (take (8 + n - 8) (drop 8 b₁))) lent r out → Closed b b₁ lent r out
close_open b b₁ why n lent r out D z k R =
    let h : standing b ≡ 0 = sym D.answer ∙ z in
    record { reply = replied_as _ _ lent r out (ap sheet_reply (part_kept b b₁ n h D.reader k) ∙ sym (reply_open b h)) R; reader = D.reader }

-- a close that comes late, or of what is no reader
pub close_late : (b b₁ : List ℕ) (why lent r : ℕ) (out : List ℕ) → ShutDone b why b₁ → (why ≡ 0 → ⊥) → Replied (refused why) lent r out → Closed b b₁ lent r out
close_late b b₁ why lent r out D z R =
    record { reply = replied_as _ _ lent r out (ap refused D.answer ∙ sym (reply_late b (λ e. z (D.answer ∙ e)))) R; reader = D.reader }

-- a refusal's number is small
pub why_small : (b b₁ : List ℕ) (why : ℕ) → ShutDone b why b₁ → why < 256
why_small b b₁ why D = omega (arith, D.answer, standing_small b)

-- a reader that was open is as long as it was
pub still_sized : (b b₁ : List ℕ) (why : ℕ) → ShutDone b why b₁ → why ≡ 0 → length b₁ ≡ size
still_sized b b₁ why D z = shut_size b b₁ (sym D.answer ∙ z) D.reader
