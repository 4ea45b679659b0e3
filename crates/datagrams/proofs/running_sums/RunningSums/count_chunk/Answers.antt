use Rattle.std.specs.Prelude.{◌≡◌, ℕ, ◌+◌, ◌<◌, ◌≤◌, suc, cond, nat_lt}
use Rattle.std.proofs.Common.{◌∙◌, ap, arith}
use Rattle.std.proofs.lemmas.Bool.Decides.{nat_tests}
use Rattle.datagrams.specs.Flow.{OpenChunk, chunk_of, size}
use Rattle.datagrams.specs.Sums.{Sums, with_chunk}
use Rattle.datagrams.proofs.FlowLemmas.{fresh_size}
use Rattle.datagrams.proofs.running_sums.RunningSums.count_chunk.Goals as goal

-- with a chunk behind a gap
behind_gap : (s : Sums) (o : OpenChunk) (n gap : ℕ) → n ≡ size o.parts → gap ≡ o.gap → 0 < gap
    → record s { delivered = s.delivered + n; gaps = s.gaps + 1; gap_bytes = s.gap_bytes + gap } ≡ with_chunk s o
behind_gap s o n gap n_is gap_is some = λ i. record s { delivered = s.delivered + n_is i; gaps = gaps_are i; gap_bytes = s.gap_bytes + gap_is i }
  where
    gaps_are : s.gaps + 1 ≡ cond (nat_lt 0 o.gap) (suc s.gaps) s.gaps
    gaps_are = grind (arith, nat_tests)

-- with one behind none
behind_none : (s : Sums) (o : OpenChunk) (n gap : ℕ) → n ≡ size o.parts → gap ≡ o.gap → gap ≤ 0
    → record s { delivered = s.delivered + n; gap_bytes = s.gap_bytes + gap } ≡ with_chunk s o
behind_none s o n gap n_is gap_is none = λ i. record s { delivered = s.delivered + n_is i; gaps = gaps_are i; gap_bytes = s.gap_bytes + gap_is i }
  where
    gaps_are : s.gaps ≡ cond (nat_lt 0 o.gap) (suc s.gaps) s.gaps
    gaps_are = grind (arith, nat_tests)

pub overflow_add-self : goal.overflow_add-self
overflow_add-self c = omega (arith, c.requires.delivered, c.fresh_len.ensures, fresh_size c.args.chunk.now.fresh, ap (λ (s : Sums). s.delivered) c.self.view_is)

pub returns-then-gap-gt0 : goal.returns-then-gap-gt0
returns-then-gap-gt0 c =
    rw (← c.self.view_is) (behind_gap _ (chunk_of c.args.chunk.now) c.fresh_len.result c.gap-gap.result (c.fresh_len.ensures ∙ fresh_size c.args.chunk.now.fresh) c.gap-gap.ensures c.if-gap-gt0.true)

pub returns-else-gap-gt0 : goal.returns-else-gap-gt0
returns-else-gap-gt0 c =
    rw (← c.self.view_is) (behind_none _ (chunk_of c.args.chunk.now) c.fresh_len.result c.gap-gap.result (c.fresh_len.ensures ∙ fresh_size c.args.chunk.now.fresh) c.gap-gap.ensures c.if-gap-gt0.false)
