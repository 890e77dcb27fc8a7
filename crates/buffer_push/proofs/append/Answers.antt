-- `buffer_push::append` meets its contract: the entry goes behind the others, its wire size into the byte count
-- (`append-is`).
use Rattle.buffer.specs.State.{settings_of}
use Rattle.buffer_push.specs.Message.Parts.{append-is}
use Rattle.buffer_push.proofs.append.Goals as goal

pub returns : goal.returns
returns c =
    append-is (settings_of c.args.c) c.args.p c.args.ring.now _ c.args.e _ c.push_back-buffer.ensures.0 c.push_back-buffer.ensures.1
