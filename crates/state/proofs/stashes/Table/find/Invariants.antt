-- The loop's invariant: looking on from j finds what looking from the start does.
use mathlib.Core.Path.{◌≡◌}
use Prim.Native.Nat.{◌-◌, min}
use Rattle.state.specs.Limits.{most_stashes}
use Rattle.state.specs.Stashes.{entries, held_in, find_in}
use Rattle.state.proofs.EntryLaws.{later}
use Rattle.state.proofs.stashes.Table.find.Given as goal

abbrev pub invariant-loop-j : goal.invariant-loop-j
invariant-loop-j l =
    let t = l.self in
    find_in (held_in t) l.hash ≡ later l.j (find_in (entries t.hashes t.sizes l.j (min t.count most_stashes - l.j)) l.hash)
