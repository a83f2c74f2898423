-- `job_replies::sizes::reply_in` meets its contract: the blocks have room. Assumes nothing.
use Prim.Native.Nat.{ℕ}
use native.Mathlib.Omega.{arith}
use lib.ListN.{length-replicate}
use lib.Ieee.{of_bits, binary32}
use Rattle.job_replies.proofs.sizes.reply_in.Goals as goal

pub whole_as_slice-reply_lent : goal.whole_as_slice-reply_lent
whole_as_slice-reply_lent g c = omega (arith, c.requires.2.few_points)

pub whole_as_slice-reply_lent-2 : goal.whole_as_slice-reply_lent-2
whole_as_slice-reply_lent-2 g c = omega (arith, c.requires.2.few_roots)

pub whole_as_slice-reply_lent-3 : goal.whole_as_slice-reply_lent-3
whole_as_slice-reply_lent-3 g c = omega (arith, c.requires.2.few_corners)

pub whole_as_slice-reply_lent-4 : goal.whole_as_slice-reply_lent-4
whole_as_slice-reply_lent-4 g c = omega (arith, c.requires.2.few_volumes)

pub whole_as_slice-reply_lent-5 : goal.whole_as_slice-reply_lent-5
whole_as_slice-reply_lent-5 g c = omega (arith, c.requires.2.few_ends)

pub whole_as_slice-reply_lent-6 : goal.whole_as_slice-reply_lent-6
whole_as_slice-reply_lent-6 g c = omega (arith, c.requires.2.few_ends)

pub whole_as_slice-reply_lent-7 : goal.whole_as_slice-reply_lent-7
whole_as_slice-reply_lent-7 g c = omega (arith, c.requires.2.few_outline)

pub whole_as_slice-reply_lent-8 : goal.whole_as_slice-reply_lent-8
whole_as_slice-reply_lent-8 g c = omega (arith, c.requires.2.few_words)

pub reply_lent-requires : goal.reply_lent-requires
reply_lent-requires g c = let P = c.requires in
    (P.0, P.1, rw (length-replicate g.row.P (of_bits binary32 0), length-replicate {A = ℕ} g.row.R 0, length-replicate {A = ℕ} g.row.C 0, length-replicate g.row.V (of_bits binary32 0), length-replicate {A = ℕ} g.row.E 0, length-replicate g.row.E (of_bits binary32 0), length-replicate {A = ℕ} g.row.B 0) P.2.image, rw (length-replicate g.row.P (of_bits binary32 0), length-replicate {A = ℕ} g.row.R 0, length-replicate {A = ℕ} g.row.C 0, length-replicate g.row.V (of_bits binary32 0), length-replicate {A = ℕ} g.row.E 0, length-replicate g.row.E (of_bits binary32 0), length-replicate {A = ℕ} g.row.B 0, length-replicate {A = ℕ} g.row.W 0) P.2.rooms)

pub shape_of-out : goal.shape_of-out
shape_of-out g c = c.reply_lent.auto.out

pub shape_of-log : goal.shape_of-log
shape_of-log g c = c.reply_lent.auto.log

pub returns : goal.returns
returns g c = c.reply_lent.ensures
