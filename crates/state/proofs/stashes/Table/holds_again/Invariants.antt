-- The loop's invariant: the hash is held from k on just where it is held after j.
use mathlib.Core.Path.{◌≡◌}
use Prim.Native.Nat.{◌+◌, ◌-◌, min}
use Rattle.state.specs.Limits.{most_stashes}
use Rattle.state.specs.Stashes.{entries, is_held}
use Rattle.state.proofs.stashes.Table.holds_again.Given as goal

abbrev pub invariant-loop-k : goal.invariant-loop-k
invariant-loop-k l =
    let t = l.self in
    let n = min t.count most_stashes in
    is_held (entries t.hashes t.sizes (l.j + 1) (n - (l.j + 1))) l.hash ≡ is_held (entries t.hashes t.sizes l.k (n - l.k)) l.hash
