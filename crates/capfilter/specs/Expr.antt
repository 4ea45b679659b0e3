use Rattle.capfilter.specs.declared.prim.Primitive.{Primitive}

-- an expression: a tree of `and`, `or` and `not` over primitives
pub data Expr : Type 0 where
  Test : (prim : Primitive) → Expr
  Not : (inner : Expr) → Expr
  And : (left right : Expr) → Expr
  Or : (left right : Expr) → Expr
