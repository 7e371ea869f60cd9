use Rattle.std.proofs.Common.{◌≡◌, ◌∙◌, ◌++◌, sym, ap, string_bytes, length, arith}
use Rattle.tw_time.specs.Extended.{extended, extended_second}
use Rattle.tw_segment.proofs.TimestampFacts.{laid_out, timestamp-is, timestamp_moment-written}
use Rattle.tw_segment.proofs.timestamp.write_timestamp.Goals as goal

pub returns-clause-text : goal.returns-clause-text
returns-clause-text c =
    let second = c.ascii.ensures ∙ c.print_extended-second.ensures.text in
    let nanos = c.ascii-2.ensures ∙ c.nine_digits.ensures.text in
    laid_out (string_bytes c.in_ok-text.text) (string_bytes c.push_str.new.self) (string_bytes c.push.new.self) (string_bytes c.push_str-2.new.self) (string_bytes c.push-2.new.self) _ _
    c.in_ok-text.ensures.bytes (c.in_ok-push_str.ensures.bytes ∙ ap (λ t. string_bytes c.in_ok-text.text ++ t) second) (c.in_ok-push.ensures.bytes ∙ ap (λ t. string_bytes c.push_str.new.self ++ t) (c.in_ok-push.ensures.ascii (omega arith)))
    (c.in_ok-push_str-2.ensures.bytes ∙ ap (λ t. string_bytes c.push.new.self ++ t) nanos) (c.in_ok-push-2.ensures.bytes ∙ ap (λ t. string_bytes c.push_str-2.new.self ++ t) (c.in_ok-push-2.ensures.ascii (omega arith)))
    ∙ sym (timestamp-is c.args.at.now)

pub returns-clause-reads_back : goal.returns-clause-reads_back
returns-clause-reads_back c =
    let text = c.print_extended-second.ensures.text in
    let len : length (extended c.args.at.now.seconds) ≡ 19 = ap length (sym text) ∙ c.print_extended-second.type_inv.1.0.1 in
    timestamp_moment-written c.args.at.now len (ap extended_second (sym text) ∙ c.print_extended-second.ensures.reads_back)
