-- `save_in_place` meets its contract: the five records stand one after the other, and what they were made of is of its
-- type.
use borrow.Author.Rules.{rules}
use Rattle.saved.proofs.PutLaws.{saved-put}
use Rattle.saved.proofs.save_in_place.Goals as goal

pub returns : goal.returns
returns c =
    let a = c.args in
    record {
      typed =
          record {
            hashes-length = search rules;
            sizes-length = search rules;
            hashes = c.put_hashes.ensures.all_below;
            sizes = c.put_numbers.ensures.all_below;
            progress = c.put_numbers-2.ensures.all_below;
            refusal = c.put_numbers-3.ensures.all_below;
            lengths = c.put_numbers-4.ensures.all_below;
          };
      form =
          saved-put a.state.now a.to.now
          c.put_hashes.new.to c.put_numbers.new.to c.put_numbers-2.new.to c.put_numbers-3.new.to c.put_numbers-4.new.to
          (search rules) (search rules) (search rules)
          c.put_hashes.ensures.to_after c.put_numbers.ensures.to_after c.put_numbers-2.ensures.to_after c.put_numbers-3.ensures.to_after
          c.put_numbers-4.ensures.to_after;
    }
