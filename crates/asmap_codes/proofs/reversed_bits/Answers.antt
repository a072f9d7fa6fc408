-- Of the reversed word, the bits that are asked for: `rev_from`.
use Rattle.std.proofs.Common.{◌≡◌, ℕ, ◌-◌, ◌*◌, ◌/◌, ◌%◌, ◌^◌, ◌∙◌, ap}
use Rattle.asmap_codes.specs.models.Reverse.{rev}
use Rattle.asmap_codes.proofs.ReverseLaws.{rev_from}
use Rattle.asmap_codes.proofs.reversed_bits.Goals as goal
use Rattle.asmap_codes.proofs.reversed_bits.Goals.{After-reversed}

-- what is computed of the reversed word
known : (c : After-reversed) → c.reversed.result * 2 ^ c.args.from % 2 ^ 64 / 2 ^ 32 / 2 ^ (32 - c.args.size) ≡ rev c.args.size (c.args.w / 2 ^ c.args.from)
known c =
    let a = c.args in
    ap (λ (i : ℕ). i * 2 ^ a.from % 2 ^ 64 / 2 ^ 32 / 2 ^ (32 - a.size)) c.reversed.ensures
    ∙ rev_from a.from a.size a.w c.requires.1 c.requires.2

pub returns : goal.returns
returns c = known (goal.at.returns c).After-reversed
