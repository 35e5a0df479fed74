-- What a fault says of a text that is not read as a message.
use Rattle.dbg_plan.specs.declared.messages.MessageFault.{MessageFault}
use Rattle.dbg_plan.specs.declared.messages.MessageFault.TheVariants.{Bad, NoMemory}

-- `NoMemory` says nothing of the text
abbrev pub UnlessNoMemory : Type 0 → MessageFault → Type 0
UnlessNoMemory P Bad = P
UnlessNoMemory P NoMemory = Unit {0}
