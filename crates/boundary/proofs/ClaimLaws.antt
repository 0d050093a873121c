-- The claim of calls through the exports, from its parts.
-- Assumes nothing.
use Rattle.muongrabi.proofs.AnswerLaws.{told}
use Rattle.boundary.specs.Sequence.{ExportClaim}
use Rattle.boundary.proofs.SequenceLaws.{stays, follows, agrees, opening, stop, cut, onward, restarts, ends}

-- THE CLAIM, of calls through the exports
pub export_claim : ExportClaim
export_claim =
    record {
      told = told;
      stays = stays;
      follows = follows;
      agrees = agrees;
      opening = opening;
      stop = λ s a z. stop s a z;
      cut = λ s a z. cut s a z;
      onward = λ s a opened o z. onward s a z opened o;
      restarts = λ s a opened o z. restarts s a z opened o;
      ends = λ s a opened o z. ends s a z opened o;
    }
