use Rattle.std.proofs.Common.{◌≡◌, sym, subst, ap, ◌∙◌, arith, ℕ, ◌+◌, [], List, length}
use Rattle.streamdefs.specs.Packet.{Packet}
use Rattle.streamdefs.specs.Terms.{Terms}
use Rattle.datagrams.specs.Stands.{Stands}
use Rattle.datagrams.specs.State.{State, answered_many}
use Rattle.datagrams.proofs.EnterLemmas.{on_ok}
use Rattle.datagrams.proofs.StandsSteps.{all_taken, many_take, stands_many}
use Rattle.datagrams.proofs.course.take.Goals as goal

same_came : (s r : State) (n : ℕ) → r ≡ answered_many n s → r.came ≡ s.came
same_came s r n e = ap (λ (x : State). x.came) e ∙ (many_take n s).2

calm : (s r : State) (n : ℕ) → n ≡ length s.waiting → r ≡ answered_many n s → r.waiting ≡ []
calm s r n m e = ap (λ (x : State). x.waiting) (e ∙ ap (λ (k : ℕ). answered_many k s) m) ∙ all_taken s

pub take_later-requires-clause-fits : goal.take_later-requires-clause-fits
take_later-requires-clause-fits c = omega (arith, c.requires.fits, same_came c.args.replay.now c.answer_many.new.replay c.waiting_len-waiting.result c.in_ok-answer_many.ensures)

pub take_first-requires-clause-fits : goal.take_first-requires-clause-fits
take_first-requires-clause-fits c = omega (arith, c.requires.fits, same_came c.args.replay.now c.answer_many.new.replay c.waiting_len-waiting.result c.in_ok-answer_many.ensures)

pub returns-in-Some-clause-came : goal.returns-in-Some-clause-came
returns-in-Some-clause-came c =
    on_ok c.take_later.result
    (λ (h : c.take_later.new.replay.came ≡ c.answer_many.new.replay.came + length c.args.packet.now.payload.now). h ∙ ap (λ (n : ℕ). n + length c.args.packet.now.payload.now) (same_came c.args.replay.now c.answer_many.new.replay c.waiting_len-waiting.result c.in_ok-answer_many.ensures))
    c.take_later.ensures.came

pub returns-in-None-clause-came : goal.returns-in-None-clause-came
returns-in-None-clause-came c =
    on_ok c.take_first.result
    (λ (h : c.take_first.new.replay.came ≡ c.answer_many.new.replay.came + length c.args.packet.now.payload.now). h ∙ ap (λ (n : ℕ). n + length c.args.packet.now.payload.now) (same_came c.args.replay.now c.answer_many.new.replay c.waiting_len-waiting.result c.in_ok-answer_many.ensures))
    c.take_first.ensures.came

told : (t : Terms) (last first : ℕ) (packets done : List Packet) (s r : State) (n : ℕ) → r ≡ answered_many n s → Stands t last first packets done 0 s → Stands t last first packets done 0 r
told t last first packets done s r n e h = subst (Stands t last first packets done 0) (sym e) (stands_many t last first packets done 0 n s h)

pub returns-in-Some-clause-stands : goal.returns-in-Some-clause-stands
returns-in-Some-clause-stands c t last first packets done stands next =
    c.take_later.ensures.stands t last first packets done (told t last first packets done c.args.replay.now c.answer_many.new.replay c.waiting_len-waiting.result c.in_ok-answer_many.ensures stands)
    (calm c.args.replay.now c.answer_many.new.replay c.waiting_len-waiting.result c.waiting_len-waiting.ensures c.in_ok-answer_many.ensures) next

pub returns-in-None-clause-stands : goal.returns-in-None-clause-stands
returns-in-None-clause-stands c t last first packets done stands next =
    c.take_first.ensures.stands t last first packets done (told t last first packets done c.args.replay.now c.answer_many.new.replay c.waiting_len-waiting.result c.in_ok-answer_many.ensures stands)
    (calm c.args.replay.now c.answer_many.new.replay c.waiting_len-waiting.result c.waiting_len-waiting.ensures c.in_ok-answer_many.ensures) next
