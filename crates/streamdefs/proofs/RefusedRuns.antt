-- Each of these runs is refused by the parts meant, and by no other.
use Rattle.std.specs.Prelude.{◌≡◌, refl, ◌<◌, ◌≤◌, [], ◌∷◌}
use Rattle.std.proofs.Common.{rules, sym, ap, arith}
use Rattle.std.proofs.lemmas.Bool.{false≢true}
use Rattle.evring.specs.Advice.{no_advice}
use Rattle.streamdefs.specs.Rows.{keep}
use Rattle.streamdefs.specs.Parts.{IsRefusedBy}
use Rattle.streamdefs.specs.Parts.Part.{OfSegs, OfConversations, OfDues, OfEnds, OfAnswers, OfWindow, OfLooks, OfFrees, OfServed, OfStamps, OfFound, OfLimit, OfRest, OfFreeOrder, OfLookOrder, OfWorkOrder}
use Rattle.streamdefs.specs.RowsWants.{two_resets}
use Rattle.streamdefs.specs.RowsRefused.{tight_right, astray, bookless, unreplaced, split_in_two, timeless, unreset, unended, unopened, unanswered, swapped, invented, above_mark, below_mark, unasked, exchanged, shown_again, surplus, stamped_past, stamped_twice, private, boundless, lost, falling, stale, backwards}

-- the plain falsehoods that the refusals come to

keeps_nothing : keep ≡ no_advice → ⊥
keeps_nothing e = false≢true (sym (ap (λ a. a.keep) e))

over : 2 ≤ 1 → ⊥
over h = omega arith

falls : 3 < 2 → ⊥
falls h = omega arith

too_low : 3 ≤ 2 → ⊥
too_low h = omega arith

goes_back : 5 < 3 → ⊥
goes_back h = omega arith

pub tight_right-refused : IsRefusedBy [] tight_right
tight_right-refused OfSegs = search rules
tight_right-refused OfConversations = search rules
tight_right-refused OfDues = search rules
tight_right-refused OfEnds = search rules
tight_right-refused OfAnswers = assumption (refl, tt)
tight_right-refused OfWindow = search rules
tight_right-refused OfLooks = search rules
tight_right-refused OfFrees = search rules
tight_right-refused OfServed = search rules
tight_right-refused OfStamps = search rules
tight_right-refused OfFound = search rules
tight_right-refused OfLimit = search rules
tight_right-refused OfRest = search rules
tight_right-refused OfFreeOrder = search rules
tight_right-refused OfLookOrder = search rules
tight_right-refused OfWorkOrder = search rules

pub astray-refused : IsRefusedBy (OfSegs ∷ []) astray
astray-refused OfSegs = λ h. cc
astray-refused OfConversations = search rules
astray-refused OfDues = search rules
astray-refused OfEnds = search rules
astray-refused OfAnswers = assumption (refl, tt)
astray-refused OfWindow = search rules
astray-refused OfLooks = search rules
astray-refused OfFrees = search rules
astray-refused OfServed = search rules
astray-refused OfStamps = search rules
astray-refused OfFound = search rules
astray-refused OfLimit = search rules
astray-refused OfRest = search rules
astray-refused OfFreeOrder = search rules
astray-refused OfLookOrder = search rules
astray-refused OfWorkOrder = search rules

pub bookless-refused : IsRefusedBy (OfSegs ∷ []) bookless
bookless-refused OfSegs = λ h. cc
bookless-refused OfConversations = search rules
bookless-refused OfDues = search rules
bookless-refused OfEnds = search rules
bookless-refused OfAnswers = assumption (refl, tt)
bookless-refused OfWindow = search rules
bookless-refused OfLooks = search rules
bookless-refused OfFrees = search rules
bookless-refused OfServed = search rules
bookless-refused OfStamps = search rules
bookless-refused OfFound = search rules
bookless-refused OfLimit = search rules
bookless-refused OfRest = search rules
bookless-refused OfFreeOrder = search rules
bookless-refused OfLookOrder = search rules
bookless-refused OfWorkOrder = search rules

pub unreplaced-refused : IsRefusedBy (OfConversations ∷ []) unreplaced
unreplaced-refused OfSegs = search rules
unreplaced-refused OfConversations = λ h. cc
unreplaced-refused OfDues = search rules
unreplaced-refused OfEnds = search rules
unreplaced-refused OfAnswers = assumption (refl, tt)
unreplaced-refused OfWindow = search rules
unreplaced-refused OfLooks = search rules
unreplaced-refused OfFrees = search rules
unreplaced-refused OfServed = search rules
unreplaced-refused OfStamps = search rules
unreplaced-refused OfFound = search rules
unreplaced-refused OfLimit = search rules
unreplaced-refused OfRest = search rules
unreplaced-refused OfFreeOrder = search rules
unreplaced-refused OfLookOrder = search rules
unreplaced-refused OfWorkOrder = search rules

pub split_in_two-refused : IsRefusedBy (OfConversations ∷ []) split_in_two
split_in_two-refused OfSegs = search rules
split_in_two-refused OfConversations = λ h. cc
split_in_two-refused OfDues = search rules
split_in_two-refused OfEnds = search rules
split_in_two-refused OfAnswers = assumption (refl, tt)
split_in_two-refused OfWindow = search rules
split_in_two-refused OfLooks = search rules
split_in_two-refused OfFrees = search rules
split_in_two-refused OfServed = search rules
split_in_two-refused OfStamps = search rules
split_in_two-refused OfFound = search rules
split_in_two-refused OfLimit = search rules
split_in_two-refused OfRest = search rules
split_in_two-refused OfFreeOrder = search rules
split_in_two-refused OfLookOrder = search rules
split_in_two-refused OfWorkOrder = search rules

pub timeless-refused : IsRefusedBy (OfDues ∷ []) timeless
timeless-refused OfSegs = search rules
timeless-refused OfConversations = search rules
timeless-refused OfDues = λ h. cc
timeless-refused OfEnds = search rules
timeless-refused OfAnswers = assumption (refl, tt)
timeless-refused OfWindow = search rules
timeless-refused OfLooks = search rules
timeless-refused OfFrees = search rules
timeless-refused OfServed = search rules
timeless-refused OfStamps = search rules
timeless-refused OfFound = search rules
timeless-refused OfLimit = search rules
timeless-refused OfRest = search rules
timeless-refused OfFreeOrder = search rules
timeless-refused OfLookOrder = search rules
timeless-refused OfWorkOrder = search rules

pub unreset-refused : IsRefusedBy (OfEnds ∷ []) unreset
unreset-refused OfSegs = search rules
unreset-refused OfConversations = search rules
unreset-refused OfDues = search rules
unreset-refused OfEnds = λ h. cc
unreset-refused OfAnswers = assumption (refl, tt)
unreset-refused OfWindow = search rules
unreset-refused OfLooks = search rules
unreset-refused OfFrees = search rules
unreset-refused OfServed = search rules
unreset-refused OfStamps = search rules
unreset-refused OfFound = search rules
unreset-refused OfLimit = search rules
unreset-refused OfRest = search rules
unreset-refused OfFreeOrder = search rules
unreset-refused OfLookOrder = search rules
unreset-refused OfWorkOrder = search rules

pub unended-refused : IsRefusedBy (OfEnds ∷ []) unended
unended-refused OfSegs = search rules
unended-refused OfConversations = search rules
unended-refused OfDues = search rules
unended-refused OfEnds = λ h. cc
unended-refused OfAnswers = assumption (refl, tt)
unended-refused OfWindow = search rules
unended-refused OfLooks = search rules
unended-refused OfFrees = search rules
unended-refused OfServed = search rules
unended-refused OfStamps = search rules
unended-refused OfFound = search rules
unended-refused OfLimit = search rules
unended-refused OfRest = search rules
unended-refused OfFreeOrder = search rules
unended-refused OfLookOrder = search rules
unended-refused OfWorkOrder = search rules

pub unopened-refused : IsRefusedBy (OfEnds ∷ []) unopened
unopened-refused OfSegs = search rules
unopened-refused OfConversations = search rules
unopened-refused OfDues = search rules
unopened-refused OfEnds = λ h. h.0.0.1.1.1.1.0.3
unopened-refused OfAnswers = assumption (refl, tt)
unopened-refused OfWindow = search rules
unopened-refused OfLooks = search rules
unopened-refused OfFrees = search rules
unopened-refused OfServed = search rules
unopened-refused OfStamps = search rules
unopened-refused OfFound = search rules
unopened-refused OfLimit = search rules
unopened-refused OfRest = search rules
unopened-refused OfFreeOrder = search rules
unopened-refused OfLookOrder = search rules
unopened-refused OfWorkOrder = search rules

pub unanswered-refused : IsRefusedBy (OfAnswers ∷ []) unanswered
unanswered-refused OfSegs = search rules
unanswered-refused OfConversations = search rules
unanswered-refused OfDues = search rules
unanswered-refused OfEnds = search rules
unanswered-refused OfAnswers = λ h. cc
unanswered-refused OfWindow = search rules
unanswered-refused OfLooks = search rules
unanswered-refused OfFrees = search rules
unanswered-refused OfServed = search rules
unanswered-refused OfStamps = search rules
unanswered-refused OfFound = search rules
unanswered-refused OfLimit = search rules
unanswered-refused OfRest = search rules
unanswered-refused OfFreeOrder = search rules
unanswered-refused OfLookOrder = search rules
unanswered-refused OfWorkOrder = search rules

pub swapped-refused : IsRefusedBy (OfAnswers ∷ []) swapped
swapped-refused OfSegs = search rules
swapped-refused OfConversations = search rules
swapped-refused OfDues = search rules
swapped-refused OfEnds = search rules
swapped-refused OfAnswers = λ h. cc
swapped-refused OfWindow = search rules
swapped-refused OfLooks = search rules
swapped-refused OfFrees = search rules
swapped-refused OfServed = search rules
swapped-refused OfStamps = search rules
swapped-refused OfFound = search rules
swapped-refused OfLimit = search rules
swapped-refused OfRest = search rules
swapped-refused OfFreeOrder = search rules
swapped-refused OfLookOrder = search rules
swapped-refused OfWorkOrder = search rules

pub invented-refused : IsRefusedBy (OfAnswers ∷ []) invented
invented-refused OfSegs = search rules
invented-refused OfConversations = search rules
invented-refused OfDues = search rules
invented-refused OfEnds = search rules
invented-refused OfAnswers = λ h. keeps_nothing h.0.0.1.1.0.1.1
invented-refused OfWindow = search rules
invented-refused OfLooks = search rules
invented-refused OfFrees = search rules
invented-refused OfServed = search rules
invented-refused OfStamps = search rules
invented-refused OfFound = search rules
invented-refused OfLimit = search rules
invented-refused OfRest = search rules
invented-refused OfFreeOrder = search rules
invented-refused OfLookOrder = search rules
invented-refused OfWorkOrder = search rules

pub above_mark-refused : IsRefusedBy (OfLooks ∷ []) above_mark
above_mark-refused OfSegs = search rules
above_mark-refused OfConversations = search rules
above_mark-refused OfDues = search rules
above_mark-refused OfEnds = search rules
above_mark-refused OfAnswers = assumption (refl, tt)
above_mark-refused OfWindow = search rules
above_mark-refused OfLooks = λ h. cc
above_mark-refused OfFrees = search rules
above_mark-refused OfServed = search rules
above_mark-refused OfStamps = search rules
above_mark-refused OfFound = search rules
above_mark-refused OfLimit = search rules
above_mark-refused OfRest = search rules
above_mark-refused OfFreeOrder = search rules
above_mark-refused OfLookOrder = search rules
above_mark-refused OfWorkOrder = search rules

pub below_mark-refused : IsRefusedBy (OfLooks ∷ []) below_mark
below_mark-refused OfSegs = search rules
below_mark-refused OfConversations = search rules
below_mark-refused OfDues = search rules
below_mark-refused OfEnds = search rules
below_mark-refused OfAnswers = assumption (refl, tt)
below_mark-refused OfWindow = search rules
below_mark-refused OfLooks = λ h. cc
below_mark-refused OfFrees = search rules
below_mark-refused OfServed = search rules
below_mark-refused OfStamps = search rules
below_mark-refused OfFound = search rules
below_mark-refused OfLimit = search rules
below_mark-refused OfRest = search rules
below_mark-refused OfFreeOrder = search rules
below_mark-refused OfLookOrder = search rules
below_mark-refused OfWorkOrder = search rules

pub unasked-refused : IsRefusedBy (OfLooks ∷ []) unasked
unasked-refused OfSegs = search rules
unasked-refused OfConversations = search rules
unasked-refused OfDues = search rules
unasked-refused OfEnds = search rules
unasked-refused OfAnswers = assumption (refl, tt)
unasked-refused OfWindow = search rules
unasked-refused OfLooks = λ h. h.0.1.1.0.1
unasked-refused OfFrees = search rules
unasked-refused OfServed = search rules
unasked-refused OfStamps = search rules
unasked-refused OfFound = search rules
unasked-refused OfLimit = search rules
unasked-refused OfRest = search rules
unasked-refused OfFreeOrder = search rules
unasked-refused OfLookOrder = search rules
unasked-refused OfWorkOrder = search rules

pub exchanged-refused : IsRefusedBy (OfFrees ∷ []) exchanged
exchanged-refused OfSegs = search rules
exchanged-refused OfConversations = search rules
exchanged-refused OfDues = search rules
exchanged-refused OfEnds = search rules
exchanged-refused OfAnswers = assumption (refl, tt)
exchanged-refused OfWindow = search rules
exchanged-refused OfLooks = search rules
exchanged-refused OfFrees = λ h. cc
exchanged-refused OfServed = search rules
exchanged-refused OfStamps = search rules
exchanged-refused OfFound = search rules
exchanged-refused OfLimit = search rules
exchanged-refused OfRest = search rules
exchanged-refused OfFreeOrder = search rules
exchanged-refused OfLookOrder = search rules
exchanged-refused OfWorkOrder = search rules

pub shown_again-refused : IsRefusedBy (OfFrees ∷ OfFreeOrder ∷ []) shown_again
shown_again-refused OfSegs = search rules
shown_again-refused OfConversations = search rules
shown_again-refused OfDues = search rules
shown_again-refused OfEnds = search rules
shown_again-refused OfAnswers = assumption (refl, tt)
shown_again-refused OfWindow = search rules
shown_again-refused OfLooks = search rules
shown_again-refused OfFrees = λ h. cc
shown_again-refused OfServed = search rules
shown_again-refused OfStamps = search rules
shown_again-refused OfFound = search rules
shown_again-refused OfLimit = search rules
shown_again-refused OfRest = search rules
shown_again-refused OfFreeOrder = λ h. h.0.1.1.0.0
shown_again-refused OfLookOrder = search rules
shown_again-refused OfWorkOrder = search rules

pub surplus-refused : IsRefusedBy (OfServed ∷ []) surplus
surplus-refused OfSegs = search rules
surplus-refused OfConversations = search rules
surplus-refused OfDues = search rules
surplus-refused OfEnds = search rules
surplus-refused OfAnswers = assumption (refl, tt)
surplus-refused OfWindow = search rules
surplus-refused OfLooks = search rules
surplus-refused OfFrees = search rules
surplus-refused OfServed = λ h. cc
surplus-refused OfStamps = search rules
surplus-refused OfFound = search rules
surplus-refused OfLimit = search rules
surplus-refused OfRest = search rules
surplus-refused OfFreeOrder = search rules
surplus-refused OfLookOrder = search rules
surplus-refused OfWorkOrder = search rules

pub stamped_past-refused : IsRefusedBy (OfStamps ∷ []) stamped_past
stamped_past-refused OfSegs = search rules
stamped_past-refused OfConversations = search rules
stamped_past-refused OfDues = search rules
stamped_past-refused OfEnds = search rules
stamped_past-refused OfAnswers = assumption (refl, tt)
stamped_past-refused OfWindow = search rules
stamped_past-refused OfLooks = search rules
stamped_past-refused OfFrees = search rules
stamped_past-refused OfServed = search rules
stamped_past-refused OfStamps = λ h. cc
stamped_past-refused OfFound = search rules
stamped_past-refused OfLimit = search rules
stamped_past-refused OfRest = search rules
stamped_past-refused OfFreeOrder = search rules
stamped_past-refused OfLookOrder = search rules
stamped_past-refused OfWorkOrder = search rules

pub stamped_twice-refused : IsRefusedBy (OfStamps ∷ []) stamped_twice
stamped_twice-refused OfSegs = search rules
stamped_twice-refused OfConversations = search rules
stamped_twice-refused OfDues = search rules
stamped_twice-refused OfEnds = search rules
stamped_twice-refused OfAnswers = assumption (refl, tt)
stamped_twice-refused OfWindow = search rules
stamped_twice-refused OfLooks = search rules
stamped_twice-refused OfFrees = search rules
stamped_twice-refused OfServed = search rules
stamped_twice-refused OfStamps = λ h. cc
stamped_twice-refused OfFound = search rules
stamped_twice-refused OfLimit = search rules
stamped_twice-refused OfRest = search rules
stamped_twice-refused OfFreeOrder = search rules
stamped_twice-refused OfLookOrder = search rules
stamped_twice-refused OfWorkOrder = search rules

pub private-refused : IsRefusedBy (OfFound ∷ []) private
private-refused OfSegs = search rules
private-refused OfConversations = search rules
private-refused OfDues = search rules
private-refused OfEnds = search rules
private-refused OfAnswers = assumption (refl, tt)
private-refused OfWindow = search rules
private-refused OfLooks = search rules
private-refused OfFrees = search rules
private-refused OfServed = search rules
private-refused OfStamps = search rules
private-refused OfFound = λ h. cc
private-refused OfLimit = search rules
private-refused OfRest = search rules
private-refused OfFreeOrder = search rules
private-refused OfLookOrder = search rules
private-refused OfWorkOrder = search rules

pub boundless-refused : IsRefusedBy (OfLimit ∷ []) boundless
boundless-refused OfSegs = search rules
boundless-refused OfConversations = search rules
boundless-refused OfDues = search rules
boundless-refused OfEnds = search rules
boundless-refused OfAnswers = assumption (refl, tt)
boundless-refused OfWindow = search rules
boundless-refused OfLooks = search rules
boundless-refused OfFrees = search rules
boundless-refused OfServed = search rules
boundless-refused OfStamps = search rules
boundless-refused OfFound = search rules
boundless-refused OfLimit = λ h. over h.0.1
boundless-refused OfRest = search rules
boundless-refused OfFreeOrder = search rules
boundless-refused OfLookOrder = search rules
boundless-refused OfWorkOrder = search rules

pub lost-refused : IsRefusedBy (OfFrees ∷ OfRest ∷ []) lost
lost-refused OfSegs = search rules
lost-refused OfConversations = search rules
lost-refused OfDues = search rules
lost-refused OfEnds = search rules
lost-refused OfAnswers = assumption (refl, tt)
lost-refused OfWindow = search rules
lost-refused OfLooks = search rules
lost-refused OfFrees = λ h. cc
lost-refused OfServed = search rules
lost-refused OfStamps = search rules
lost-refused OfFound = search rules
lost-refused OfLimit = search rules
lost-refused OfRest = λ h. cc
lost-refused OfFreeOrder = search rules
lost-refused OfLookOrder = search rules
lost-refused OfWorkOrder = search rules

pub falling-refused : IsRefusedBy (OfFreeOrder ∷ []) falling
falling-refused OfSegs = search rules
falling-refused OfConversations = search rules
falling-refused OfDues = search rules
falling-refused OfEnds = search rules
falling-refused OfAnswers = assumption (refl, tt)
falling-refused OfWindow = search rules
falling-refused OfLooks = search rules
falling-refused OfFrees = search rules
falling-refused OfServed = search rules
falling-refused OfStamps = search rules
falling-refused OfFound = search rules
falling-refused OfLimit = search rules
falling-refused OfRest = search rules
falling-refused OfFreeOrder = λ h. falls h.0.1.1.1.1.1.0.1.0
falling-refused OfLookOrder = search rules
falling-refused OfWorkOrder = search rules

pub stale-refused : IsRefusedBy (OfLookOrder ∷ []) stale
stale-refused OfSegs = search rules
stale-refused OfConversations = search rules
stale-refused OfDues = search rules
stale-refused OfEnds = search rules
stale-refused OfAnswers = assumption (refl, tt)
stale-refused OfWindow = search rules
stale-refused OfLooks = search rules
stale-refused OfFrees = search rules
stale-refused OfServed = search rules
stale-refused OfStamps = search rules
stale-refused OfFound = search rules
stale-refused OfLimit = search rules
stale-refused OfRest = search rules
stale-refused OfFreeOrder = search rules
stale-refused OfLookOrder = λ h. too_low h.0.1.1.1.1.0.0.1.1.0
stale-refused OfWorkOrder = search rules

pub backwards-refused : IsRefusedBy (OfWorkOrder ∷ []) backwards
backwards-refused OfSegs = search rules
backwards-refused OfConversations = search rules
backwards-refused OfDues = search rules
backwards-refused OfEnds = search rules
backwards-refused OfAnswers = assumption (refl, tt)
backwards-refused OfWindow = search rules
backwards-refused OfLooks = search rules
backwards-refused OfFrees = search rules
backwards-refused OfServed = search rules
backwards-refused OfStamps = search rules
backwards-refused OfFound = search rules
backwards-refused OfLimit = search rules
backwards-refused OfRest = search rules
backwards-refused OfFreeOrder = search rules
backwards-refused OfLookOrder = search rules
backwards-refused OfWorkOrder = λ h. goes_back h.0.1.0

pub two_resets-refused : IsRefusedBy [] two_resets
two_resets-refused OfSegs = search rules
two_resets-refused OfConversations = search rules
two_resets-refused OfDues = search rules
two_resets-refused OfEnds = search rules
two_resets-refused OfAnswers = assumption (refl, tt)
two_resets-refused OfWindow = search rules
two_resets-refused OfLooks = search rules
two_resets-refused OfFrees = search rules
two_resets-refused OfServed = search rules
two_resets-refused OfStamps = search rules
two_resets-refused OfFound = search rules
two_resets-refused OfLimit = search rules
two_resets-refused OfRest = search rules
two_resets-refused OfFreeOrder = search rules
two_resets-refused OfLookOrder = search rules
two_resets-refused OfWorkOrder = search rules
