-- `sha1_digest::digest` meets its contract: the whole blocks, and then what is left with its padding.
use Rattle.std.proofs.Common.{◌≡◌, ℕ, ◌-◌, ◌%◌, List, length, drop, sym, ap, ◌∙◌, arith}
use Rattle.sha1_digest.specs.Sha1.{initial, output, sha1-is}
use Rattle.sha1_digest.proofs.PaddingLaws.{hash-padded}
use Rattle.sha1_digest.proofs.digest.Goals as goal

pub returns : goal.returns
returns c =
    let m : List ℕ = c.args.s.now in
    let at : ℕ = length m - length m % 64 in
    let rest : c.remainder.result.now ≡ drop at m = c.remainder.ensures ∙ c.chunks_exact.ensures.remainder in
    c.close.ensures
    ∙ rw (rest, c.hash-h.ensures) (ap output (sym (hash-padded initial m (length m) at (omega arith))) ∙ sym (sha1-is m))
