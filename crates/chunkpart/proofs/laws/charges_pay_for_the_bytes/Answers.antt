use Rattle.std.proofs.Common.{ℕ, List, ◌∙◌, ap, length, option_to_list}
use Rattle.std.proofs.lemmas.List.Concat.{flat_map-append}
use Rattle.chunkpart.specs.ChunkParts.{parts_of}
use Rattle.chunkpart.proofs.PartsLemmas.{charged_bytes-paid}
use Rattle.chunkpart.proofs.laws.charges_pay_for_the_bytes.Goals as goal

pub returns : goal.returns
returns g c =
    charged_bytes-paid g.C.Charge.amount (parts_of c.args.chunk.now) c.each_charge_pays_for_its_part.ensures
    ∙ ap (λ (l : List ℕ). length l) (flat_map-append (λ (part : List ℕ × g.row.C.Denot). part.0) (option_to_list c.args.chunk.now.tail) c.args.chunk.now.fresh)
