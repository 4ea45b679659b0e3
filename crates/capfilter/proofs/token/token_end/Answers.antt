use Rattle.std.proofs.Common.{◌∙◌, arith, get_or, sym}
use Rattle.capfilter.proofs.TokenLemmas.{tokens_run_at, tokens_bracket_at, is_plain_there, stops_behind}
use Rattle.capfilter.proofs.token.token_end.Goals as goal

pub returns-clause-range : goal.returns-clause-range
returns-clause-range c =
    let plain = is_plain_there (get_or c.args.text.now c.args.start 0) c.requires.begins (sym c.is_bracket_byte.ensures ∙ c.if-is_bracket_byte.false) in
    let range = c.skip_plain.ensures.range in
    (stops_behind c.args.text.now c.args.start c.skip_plain.result c.requires.within range.0 plain c.skip_plain.ensures.stops, range.1)

pub returns-clause-token : goal.returns-clause-token
returns-clause-token c =
    let plain = is_plain_there (get_or c.args.text.now c.args.start 0) c.requires.begins (sym c.is_bracket_byte.ensures ∙ c.if-is_bracket_byte.false) in
    let range = c.skip_plain.ensures.range in
    tokens_run_at c.args.text.now c.args.start c.skip_plain.result (stops_behind c.args.text.now c.args.start c.skip_plain.result c.requires.within range.0 plain c.skip_plain.ensures.stops) range.1 c.skip_plain.ensures.plain c.skip_plain.ensures.stops

pub returns-then-is_bracket_byte : goal.returns-then-is_bracket_byte
returns-then-is_bracket_byte c =
    record {
      range = (omega arith, omega arith);
      token = tokens_bracket_at c.args.text.now c.args.start c.requires.within c.requires.begins (sym c.is_bracket_byte.ensures ∙ c.if-is_bracket_byte.true);
    }
