-- The operations by the files that print them.
use Rattle.ir_model.specs.declared.op.Op.{Op}
use Rattle.ir_model.specs.declared.op.Op.TheVariants.{Binary, Icmp, Cast, Select, Phi, Freeze, Alloca, Load, Store, Gep, Call, Jump, Branch, Switch, Ret, Unreachable}

pub data Kind : Type 0 where
  OfTwo : Kind
  Given : Kind
  OfMemory : Kind
  OfCalls : Kind
  OfControl : Kind

abbrev pub kind_of : Op → Kind
kind_of (Binary op nuw nsw exact disjoint kind left right) = OfTwo
kind_of (Icmp pred kind left right) = OfTwo
kind_of (Cast op nneg from value to) = Given
kind_of (Select cond left right) = Given
kind_of (Phi kind entries) = Given
kind_of (Freeze kind value) = Given
kind_of (Alloca kind) = OfMemory
kind_of (Load kind from) = OfMemory
kind_of (Store kind value to) = OfMemory
kind_of (Gep inbounds kind base indices) = OfMemory
kind_of (Call ret callee args) = OfCalls
kind_of (Jump to) = OfControl
kind_of (Branch cond there other) = OfControl
kind_of (Switch kind value other cases) = OfControl
kind_of (Ret value) = OfControl
kind_of Unreachable = OfControl
