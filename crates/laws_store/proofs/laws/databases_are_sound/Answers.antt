use Rattle.laws_store.proofs.Numbered.{accepted_sound, accepted_spells}
use Rattle.laws_store.proofs.laws.databases_are_sound.Goals as goal

pub returns : goal.returns
returns c = λ image db a has. (accepted_sound image db a has, accepted_spells image db a has)
