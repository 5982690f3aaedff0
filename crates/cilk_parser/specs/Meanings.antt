-- What the operators of the code mean.
use Rattle.word_ops.specs.declared.operators.UnaryOp.TheVariants as single
use Rattle.cilk_model.specs.Signs as sign
use Rattle.cilk_parser.specs.declared.signs.Infix.{Infix}
use Rattle.cilk_parser.specs.declared.signs.Infix.TheVariants.{Either, Both, Binary}
use Rattle.cilk_parser.specs.declared.signs.Prefix.{Prefix}
use Rattle.cilk_parser.specs.declared.signs.Prefix.TheVariants.{Unary, Contents}

abbrev pub meant_before : Prefix → sign.Prefix
meant_before (Unary single.Neg) = sign.minus
meant_before (Unary single.Not) = sign.opposite
meant_before (Unary single.Flip) = sign.complement
meant_before Contents = sign.contents

abbrev pub meant_between : Infix → sign.Infix
meant_between Either = sign.either
meant_between Both = sign.both
meant_between (Binary o) = sign.binary o
