use Rattle.std.proofs.Common.{rules}
use Rattle.plan_file.proofs.RoundTrips.{found, room_for_words, read_granted, read_spelled}
use Rattle.plan_file.proofs.plan_reader.read_plan.Goals as goal

pub fill_domains-requires-clause-words : goal.fill_domains-requires-clause-words
fill_domains-requires-clause-words c =
    let bytes = c.args.bytes.now in
    let h = c.in_ok-head.head in
    room_for_words bytes h (found bytes _ h _ c.type_inv.bytes c.if-bytes-ne0.false c.record_bytes.ensures.bytes (search rules) c.in_ok-ones_in_words.ensures c.if-branch-head.false)

pub returns-clause-answer : goal.returns-clause-answer
returns-clause-answer c =
    let bytes = c.args.bytes.now in
    let h = c.in_ok-head.head in
    let f = found bytes _ h _ c.type_inv.bytes c.if-bytes-ne0.false c.record_bytes.ensures.bytes (search rules) c.in_ok-ones_in_words.ensures c.if-branch-head.false in
    read_granted bytes h f c.args.domains.now c.fill_domains.new.domains c.if-domains-numbers.false c.fill_domains.ensures

pub returns-clause-spelled : goal.returns-clause-spelled
returns-clause-spelled c =
    let bytes = c.args.bytes.now in
    let h = c.in_ok-head.head in
    let f = found bytes _ h _ c.type_inv.bytes c.if-bytes-ne0.false c.record_bytes.ensures.bytes (search rules) c.in_ok-ones_in_words.ensures c.if-branch-head.false in
    read_spelled bytes h f c.args.domains.now c.fill_domains.new.domains c.if-domains-numbers.false c.fill_domains.ensures
