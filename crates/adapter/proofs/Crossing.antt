-- What the tasks of the writer, the reader and the runner own, and what the last two return, may go to another thread.
use mathlib.Core.List.{[], ◌∷◌}
use denote.RattleType.{RattleType}
use denote.Ref.{NamedLft, MutRef}
use denote.Struct.Tuple.{Tuple}
use denote.Param.Send.{IsSend, sendable}
use Rattle.std.proofs.Crossing.{crosses}
use Rattle.dap_wires.specs.contracts.event_ends.ClientSender as ClientSender
use Rattle.dap_wires.specs.contracts.event_ends.ReportSender as ReportSender
use Rattle.dap_wires.specs.contracts.frame_ends.FrameReceiver as FrameReceiver
use Rattle.dap_wires.specs.contracts.order_ends.OrderReceiver as OrderReceiver
use Rattle.dap_wires.specs.contracts.reading.ReadEnd as ReadEnd
use Rattle.dap_wires.specs.contracts.writer_end.WriterEnd as WriterEnd
use Rattle.dap_wires.specs.contracts.writer_message.WriterMessage as WriterMessage
use Rattle.dap_wires.proofs.ends.ReceiveEnd.TheSendSync as receive_end
use Rattle.dap_wires.proofs.Crossing.{client_sender_field_send, report_sender_field_send, order_receiver_field_send}
use Rattle.adapter.specs.contracts.thread_tasks.ReaderOutput as ReaderOutput
use Rattle.adapter.specs.contracts.thread_tasks.ReaderTask as ReaderTask
use Rattle.adapter.specs.contracts.thread_tasks.RunnerOutput as RunnerOutput
use Rattle.adapter.specs.contracts.thread_tasks.RunnerTask as RunnerTask
use Rattle.adapter.specs.contracts.thread_tasks.WriterTask as WriterTask

message_send : IsSend WriterMessage.the_row
message_send = search (crosses, sendable) depth 60 fits 20000

frame_receiver_field_send : (R : RattleType) → IsSend R → IsSend (FrameReceiver.the_field R).row
frame_receiver_field_send R r =
    let a = message_send in search (receive_end.the_field_send, sendable) depth 60 fits 20000

writer_end_field_send : (O R : RattleType) → IsSend R → IsSend (WriterEnd.the_field O R).row
writer_end_field_send O R r =
    let a = frame_receiver_field_send R r in search (crosses, sendable) depth 60 fits 20000

pub writer_task_send : (α : NamedLft) (O R : RattleType) → IsSend O → IsSend R → IsSend (WriterTask.the_row α O R)
writer_task_send α O R o r = let a = writer_end_field_send O R r in search (crosses, sendable) depth 60 fits 20000

pub runner_task_send : (α : NamedLft) (G R : RattleType) → IsSend G → IsSend R → IsSend (RunnerTask.the_row α G R)
runner_task_send α G R g r =
    let a = order_receiver_field_send R r in let b =
    report_sender_field_send R r in search (crosses, sendable) depth 60 fits 20000

pub runner_output_send : (α : NamedLft) (G R : RattleType) → IsSend G → IsSend R → IsSend (RunnerOutput.the_row α G R)
runner_output_send α G R g r =
    let a = order_receiver_field_send R r in let b =
    report_sender_field_send R r in search (crosses, sendable) depth 60 fits 20000

pub reader_task_send : (α : NamedLft) (I R : RattleType) → IsSend I → IsSend R → IsSend (ReaderTask.the_row α I R)
reader_task_send α I R i r = let a = client_sender_field_send R r in search (crosses, sendable) depth 60 fits 20000

pub reader_output_send : (α : NamedLft) (I R : RattleType) → IsSend I → IsSend R → IsSend (ReaderOutput.the_row α I R)
reader_output_send α I R i r = let a = client_sender_field_send R r in search (crosses, sendable) depth 60 fits 20000
