-- The promises of specs/Promises.antt, each from its law or by computation. Assumes nothing.
use mathlib.Core.Path.{refl}
use Rattle.uuid_spec.specs.Version7.{no_upper, is_variant_digit, is_version7_text}
use Rattle.uuid_spec.specs.Promises.{OctetsExactly, LayoutExactly, TextsSpell, SpelledOnce, TextExactly, TextOfVersion7}
use Rattle.uuid_spec.specs.Promises.{PublishedExamples, BothSides}
use Rattle.uuid_spec.proofs.OctetLaws as octets
use Rattle.uuid_spec.proofs.SpellLaws as spell
use Rattle.uuid_spec.proofs.TextLaws as text

-- ---- octets

pub octets_exactly : OctetsExactly
octets_exactly = octets.octets_exactly

pub layout_exactly : LayoutExactly
layout_exactly = octets.layout_exactly

-- ---- texts

pub texts_spell : TextsSpell
texts_spell = spell.texts_spell

pub spelled_once : SpelledOnce
spelled_once = spell.spelled_once

pub text_exactly : TextExactly
text_exactly = text.text_exactly

pub text_of_version7 : TextOfVersion7
text_of_version7 = text.text_of_version7

-- ---- published examples

pub published_examples : PublishedExamples
unfolding no_upper is_variant_digit is_version7_text
published_examples = (refl, refl, refl, refl, refl, refl, refl, refl, refl)

pub both_sides : BothSides
unfolding no_upper is_variant_digit is_version7_text
both_sides = (refl, refl, refl, refl, refl, refl, refl, refl, refl)
