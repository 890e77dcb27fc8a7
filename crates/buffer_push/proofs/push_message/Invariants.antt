use Rattle.std.proofs.Common.{◌≡◌}
use Rattle.buffer.specs.State.{settings_of}
use Rattle.buffer_push.specs.Message.{work, pushing}
use Rattle.buffer_push.specs.Message.Whole.{Going}
use Rattle.buffer_push.proofs.push_message.Given as goal

abbrev pub invariant-loop : goal.invariant-loop
invariant-loop l = record {
  going : Going (settings_of l.c) l.time l.b.message.0 l.payload l.n (pushing (work l.initial.p l.initial.ring l.lost) l.initial.store) (pushing (work l.p l.ring l.lost) l.store);
  made : l.p.made ≡ l.counter;
}
