use Rattle.std.proofs.Common.{◌∙◌, ap, arith, get_or, subst, sym}
use Rattle.evring.specs.declared.way.Way.TheVariants.{Fore, Back}
use Rattle.datagrams.specs.declared.conversation.Conversation.{Conversation}
use Rattle.datagrams.specs.State.{closed_half, FitsInto, IsSettled}
use Rattle.datagrams.proofs.EnterLemmas.{changed_once, changed_twice}
use Rattle.datagrams.proofs.end_half.end_place.Goals as goal

back_fits : (c : Conversation) → IsSettled c → FitsInto Back 0 (closed_half Fore c)
back_fits c h = record { fits = omega (arith, h.back_sent); balanced = h.back }

pub end_half-back-requires-clause-fits : goal.end_half-back-requires-clause-fits
end_half-back-requires-clause-fits c = λ d.
    subst (FitsInto Back 0) (sym (changed_once c.args.table.now c.end_half-fore.new.table c.args.place (closed_half Fore) d c.requires.place c.end_half-fore.ensures.table))
    (back_fits (get_or c.args.table.now c.args.place d) (c.requires.fits d))

pub returns-clause-back : goal.returns-clause-back
returns-clause-back c = λ d.
    c.end_half-back.ensures.chunk d
    ∙ ap (λ (x : Conversation). x.back.chunk) (changed_once c.args.table.now c.end_half-fore.new.table c.args.place (closed_half Fore) d c.requires.place c.end_half-fore.ensures.table)

pub returns-clause-table : goal.returns-clause-table
returns-clause-table c = λ d.
    changed_twice c.args.table.now c.end_half-fore.new.table c.end_half-back.new.table c.args.place (closed_half Fore) (closed_half Back) d c.requires.place
    c.end_half-fore.ensures.table c.end_half-back.ensures.table
