-- The loop's invariant: some hash is held twice from j on just where one is held twice.
use mathlib.Core.Path.{◌≡◌}
use Prim.Native.Nat.{◌-◌, min}
use Rattle.state.specs.Limits.{most_stashes}
use Rattle.state.specs.Stashes.{entries, held_in, held_twice}
use Rattle.state.proofs.stashes.Table.holds_twice.Given as goal

abbrev pub invariant-loop-j : goal.invariant-loop-j
invariant-loop-j l =
    let t = l.self in
    held_twice (held_in t) ≡ held_twice (entries t.hashes t.sizes l.j (min t.count most_stashes - l.j))
