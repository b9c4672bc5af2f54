-- The search of the part: `SearchLaws` says what each turn keeps and what both ways out say, of the list of the part's numbers.
use Prim.Native.Nat.{◌≤◌, ◌+◌, ◌*◌}
use Rattle.field_search.proofs.SearchLaws.{BetweenElements, WithinElement}
use Rattle.field_search.proofs.search.Given as goal

abbrev pub invariant-numbers : goal.invariant-numbers
invariant-numbers g l = WithinElement (g.N.Numbers.numbers l.numbers) (l.j * l.nx + l.i) l.start l.v l.sum l.sound

abbrev pub invariant-elements : goal.invariant-elements
invariant-elements g l = BetweenElements (g.N.Numbers.numbers l.numbers) (l.j * l.nx + l.i) l.start l.sum l.sound × (l.i ≤ l.nx)

abbrev pub invariant-rows : goal.invariant-rows
invariant-rows g l = BetweenElements (g.N.Numbers.numbers l.numbers) (l.j * l.nx) l.start l.sum l.sound × (l.j ≤ l.ny)
