use Rattle.std.proofs.Common.{refl}
use Rattle.tw_streams.proofs.client.ask.Goals as goal

pub returns-in-Ok-read_reply-clause-asked : goal.returns-in-Ok-read_reply-clause-asked
returns-in-Ok-read_reply-clause-asked g c = record {
  connection = c.in-Ok.connection;
  ended = c.read_reply.new.stream.stream;
  begun = c.in-Ok.ensures.dialled;
  exchanged = record {
    sent = c.write_whole.new.writer.stream;
    got = c.if-not-write_whole.ensures.whole refl;
    read = c.in-Ok-read_reply.ensures.bytes;
    whole = c.in-Ok-read_reply.ensures.whole;
    no_more = c.in-Ok-read_reply.ensures.no_more;
  };
}
