use Rattle.dgt_host.proofs.HearingLemmas.{clocks_heard, dump_repairs, message_heard, pictures_heard}
use Rattle.dgt_host.proofs.laws.messages_are_heard.Goals as goal

pub returns-clause-whole : goal.returns-clause-whole
returns-clause-whole c = message_heard c.encoding_is_read.ensures

pub returns-clause-picture : goal.returns-clause-picture
returns-clause-picture c = pictures_heard c.encoding_is_read.ensures

pub returns-clause-clock : goal.returns-clause-clock
returns-clause-clock c = clocks_heard c.encoding_is_read.ensures

pub returns-clause-dump : goal.returns-clause-dump
returns-clause-dump c = dump_repairs c.encoding_is_read.ensures
