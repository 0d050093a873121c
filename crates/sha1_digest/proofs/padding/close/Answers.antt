-- `sha1_digest::padding::close` meets its contract: the buffer starts with the padded bytes.
use Rattle.std.proofs.Common.{◌≡◌, ℕ, ◌-◌, ◌*◌, ◌%◌, ◌^◌, List, take, replicate, ap, ◌∙◌, arith}
use borrow.Rule.Slice.PartMut.{put_mid}
use Rattle.sha1_digest.specs.Sha1 as S
use Rattle.sha1_digest.proofs.WordLaws.{be_bytes_eight}
use Rattle.sha1_digest.proofs.PaddingLaws.{put-behind, take-padded}
use Rattle.sha1_digest.proofs.padding.close.Goals as goal

pub returns : goal.returns
returns c =
    let r = c.args.rest.now in
    let n = c.args.n in
    let e : ℕ = c.padded_len-end.result in
    let s : List ℕ = c.copy_from_slice-2.new.self in
    let w : s ≡ S.bytes 8 (n * 8 % 2 ^ 64) = c.copy_from_slice-2.ensures.after ∙ c.to_be_bytes.ensures ∙ be_bytes_eight _ in
    c.output.ensures
    ∙ ap S.output
    (c.hash.ensures
    ∙ ap (S.hash c.args.h)
    (rw c.copy_from_slice.ensures.after
    (ap (λ (d : List ℕ). take e (put_mid (e - 8) (e - (e - 8)) d s)) (put-behind (replicate 128 0) r 0x80 (omega arith))
    ∙ take-padded r e c.requires c.padded_len-end.ensures n (e - (e - 8)) s w)))
