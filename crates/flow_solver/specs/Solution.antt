-- What the solver answers.
use Rattle.std.specs.Prelude.{ℕ, List, Bool, ℤ}
use Rattle.flow_solver.specs.declared.solver.Solution.{Solution}
use Rattle.flow_solver.specs.declared.solver.Solution.TheVariants.{Solved, Unsat}

-- a fact of the flow and the potentials, where there are some
abbrev pub IfSolved : Solution → (List ℕ → List ℤ → Type 0) → Type 0
IfSolved (Solved flow potentials) P = P flow.items potentials.items
IfSolved (Unsat marks) P = Unit {0}

-- a fact of the marks, where there are some
abbrev pub IfUnsat : Solution → (List Bool → Type 0) → Type 0
IfUnsat (Solved flow potentials) P = Unit {0}
IfUnsat (Unsat marks) P = P marks.items
