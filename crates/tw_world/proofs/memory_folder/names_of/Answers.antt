use Rattle.std.proofs.Common.{◌∙◌, ap, sym, arith, map, length, List, ℕ, get_or}
use Rattle.std.specs.String.{string_bytes}
use Rattle.tw_world.specs.MemoryFolder.{Put}
use Rattle.tw_world.specs.Folder.{add_name}
use Rattle.tw_world.proofs.Puts.{named_more, none_named}
use Rattle.tw_world.proofs.memory_folder.names_of.Goals as goal

pub loop-put-init : goal.loop-put-init
loop-put-init c = ap (map string_bytes) c.new-names.ensures.items ∙ none_named

pub loop-put-preserved : goal.loop-put-preserved
loop-put-preserved c =
    c.in_ok-add_name.ensures ∙ ap (λ (n : List ℕ). add_name n (map string_bytes c.loop-put.names.items)) c.as_str.ensures.value ∙ ap (add_name (string_bytes c.put-item.result.0)) c.loop-put.invariant
    ∙ sym (named_more c.args.puts.now.items c.loop-put.put-index c.put-item.result (omega (arith, ap length c.deref-put-items.ensures.value, c.loop-put-test.true)) (c.put-item.is ∙ ap (λ (l : List Put). get_or l c.loop-put.put-index c.put-item.result) c.deref-put-items.ensures.value))
