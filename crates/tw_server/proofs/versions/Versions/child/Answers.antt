use Rattle.std.proofs.Common.{◌∙◌, true, sym, ap, subst}
use Rattle.std.specs.List.{position}
use Rattle.tw_server.specs.Index.{IsIndexOf, keys_of}
use Rattle.tw_server.specs.Versions.{is_child}
use Rattle.tw_server.proofs.versions.Versions.child.Goals as goal

pub found-requires : goal.found-requires
found-requires c = subst (λ es. IsIndexOf c.args.self.now.children (keys_of true es)) (sym c.as_slice.ensures.value) c.args.self.now.children_are

pub returns : goal.returns
returns c = c.found.ensures ∙ ap (position (is_child c.args.client c.args.parent)) c.as_slice.ensures.value
